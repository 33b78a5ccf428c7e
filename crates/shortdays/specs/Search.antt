-- RULES 15.3: the search for the list at a place: where it stands, and what it gives back. Assumes nothing.
use Rattle.std.specs.Prelude.{ℕ, ◌+◌, ◌-◌, ◌*◌, ◌≤◌, ◌<◌, ◌≡◌, Bool, true, not, List, [], ◌++◌, eqb, length, take, get_or, Result, Ok, Err}
use Rattle.rules.specs.Range.{all}
use Rattle.rules.specs.Card.{card_length}
use Rattle.rules.specs.Event.{Event}
use Rattle.rules.specs.Cause.{later_cause}
use Rattle.rules.specs.Ledger.{Ledger}
use Rattle.rules.specs.Encoding.{event_length, bytes_of_events}
use Rattle.rules.specs.Run.{run}
use Rattle.rules.specs.Serial.Demand.{opening_under}
use Rattle.enumeration.specs.ShortDay.{most_short}
use Rattle.shortdays.specs.Written.{IsShortLong}

-- p events are written at the front of the list, and s is the ledger that they lead to from a new table under the rule, over stores
-- of zeros
pub record Reached (rule p : ℕ) (list : List ℕ) (s : Ledger) : Type 0 where
  pub events : List Event
  pub many : length events ≡ p
  pub whole : all (λ e. eqb (length e.card) card_length) events ≡ true
  pub written : take (event_length * p) list ≡ bytes_of_events events
  pub led : s ≡ (run (opening_under rule) events).after

-- the search stands there, with so many events left to find
pub record Searching (rule p left : ℕ) (list : List ℕ) (s : Ledger) : Type 0 where
  pub long : IsShortLong list
  pub some : 1 ≤ left
  pub few : p + left ≤ most_short
  pub reached : Reached rule p list s

-- The search for place i among the lists days, each of which has so many events as are left, began with this list written and from
-- the ledger s, and ended with that list and the ledger t.

-- found: the list at the place is written behind the first p events, and all its events but the last are taken
pub record IsFound (days : List (List Event)) (i p left : ℕ) (s t : Ledger) (list after : List ℕ) : Type 0 where
  pub within : i < length days
  pub written : take (event_length * (p + left)) after ≡ take (event_length * p) list ++ bytes_of_events (get_or days i [])
  pub led : t ≡ (run s (take (left - 1) (get_or days i []))).after

-- past the last list by j: the ledger is as it was, and so are the first p events; what is written behind them is of no account
pub record IsPast (days : List (List Event)) (i j p : ℕ) (s t : Ledger) (list after : List ℕ) : Type 0 where
  pub beyond : i ≡ length days + j
  pub kept : take (event_length * p) after ≡ take (event_length * p) list
  pub back : t ≡ s

-- an event has a cause, on a sound table over stores that fit
abbrev pub has_cause : List ℕ → List ℕ → Event → Bool
has_cause w base e = not (eqb (later_cause w base e) 0)

-- what the search answers: nothing where it found the list, else how far the place is past the last
abbrev pub Sought : Type 0
Sought = Result (Unit {0}) ℕ

abbrev pub IsSought : List (List Event) → ℕ → ℕ → ℕ → Ledger → Ledger → List ℕ → List ℕ → Sought → Type 0
IsSought days i p left s t list after (Ok found) = IsFound days i p left s t list after
IsSought days i p left s t list after (Err j) = IsPast days i j p s t list after

-- the same of a whole day, of k events
pub record IsDayFound (days : List (List Event)) (place k : ℕ) (after : List ℕ) : Type 0 where
  pub within : place < length days
  pub written : take (event_length * k) after ≡ bytes_of_events (get_or days place [])

abbrev pub IsDaySought : List (List Event) → ℕ → ℕ → List ℕ → Sought → Type 0
IsDaySought days place k after (Ok found) = IsDayFound days place k after
IsDaySought days place k after (Err j) = place ≡ length days + j
