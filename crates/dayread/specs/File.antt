-- RULES 9.1 and 9.2: a day file, its two sections, and what may be wrong with it. Assumes nothing.
use Rattle.std.specs.Prelude.{ℕ, ◌+◌, ◌-◌, ◌*◌, ◌<◌, Bool, not, ◌&&◌, ◌||◌, List, [], ◌∷◌, ltb, eqb, length, take, drop, get_or}
use Rattle.rules.specs.Range.{up_from, all}
use Rattle.rules.specs.Card.{account_count, card_length}
use Rattle.rules.specs.Encoding.{event_length, most_events}
use Rattle.rules.specs.Cause.{first_cause, length_cause, count_cause, opening_cause}

abbrev pub IsByte : ℕ → Type 0
IsByte b = b < 256

-- a place is one of a list's
abbrev pub IsInside : List ℕ → ℕ → Type 0
IsInside bytes at = at < length bytes

-- a number in two bytes, low byte first
abbrev pub number_at : List ℕ → ℕ → ℕ
number_at bytes at = get_or bytes at 0 + 256 * get_or bytes (at + 1) 0

-- ---- the opening cards

abbrev pub most_cards : ℕ
most_cards = 32

abbrev pub card_count : List ℕ → ℕ
card_count file = get_or file 0 0

-- the bytes of an opening card with its account, and where the ith account stands
abbrev pub entry_length : ℕ
entry_length = 33

abbrev pub account_place : ℕ → ℕ
account_place i = 1 + entry_length * i

abbrev pub account_at : List ℕ → ℕ → ℕ
account_at file i = get_or file (account_place i) 0

abbrev pub opening_card : List ℕ → ℕ → List ℕ
opening_card file i = take card_length (drop (account_place i + 1) file)

-- ---- the events

-- the count of the events stands behind the last opening card, the events behind it
abbrev pub count_place : List ℕ → ℕ
count_place file = account_place (card_count file)

abbrev pub event_count : List ℕ → ℕ
event_count file = number_at file (count_place file)

abbrev pub events_place : List ℕ → ℕ
events_place file = count_place file + 2

abbrev pub event_bytes : List ℕ → List ℕ
event_bytes file = drop (events_place file) file

-- the length that a file with these counts has
abbrev pub file_length : List ℕ → ℕ
file_length file = events_place file + event_length * event_count file

-- ---- the faults

-- the ith opening account is known, and above the one before it
abbrev pub is_rising : List ℕ → ℕ → Bool
is_rising file i = ltb (account_at file i) account_count && (eqb i 0 || ltb (account_at file (i - 1)) (account_at file i))

-- RULES 9.2: the first fault in the order of the list, 0 where there is none
unfoldable pub file_fault : List ℕ → ℕ
file_fault file =
    first_cause
    (record { number = length_cause; applies = eqb (length file) 0 }
    ∷ record { number = count_cause; applies = ltb most_cards (card_count file) }
    ∷ record { number = length_cause; applies = ltb (length file) (events_place file) }
    ∷ record { number = count_cause; applies = ltb most_events (event_count file) }
    ∷ record { number = length_cause; applies = not (eqb (length file) (file_length file)) }
    ∷ record { number = opening_cause; applies = not (all (is_rising file) (up_from 0 (card_count file))) }
    ∷ [])
