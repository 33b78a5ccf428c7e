-- RULES 15.4: events written into the buffer of a list, and what the functions that write them ask of their callers.
-- Assumes nothing.
use Rattle.std.specs.Prelude.{ℕ, ◌+◌, ◌*◌, ◌≤◌, ◌<◌, ◌≡◌, List, ◌++◌, length, take, drop}
use Rattle.rules.specs.Event.{Event}
use Rattle.rules.specs.Encoding.{event_length, bytes_of_event}
use Rattle.enumeration.specs.ShortDay.{most_short}
use Rattle.enumeration.specs.Lists.{candidate_count}

-- the bytes of a list's buffer
abbrev pub short_length : ℕ
short_length = 210

abbrev pub IsShortLong : List ℕ → Type 0
IsShortLong list = length list ≡ short_length

-- c is a candidate, or the one behind the last
abbrev pub IsCandidate : ℕ → Type 0
IsCandidate c = c < candidate_count

abbrev pub IsNextCandidate : ℕ → Type 0
IsNextCandidate c = c ≤ candidate_count

-- so few events stand before one that it fits
abbrev pub FewBefore : ℕ → Type 0
FewBefore p = p < most_short

-- the buffer has all bytes of the event behind p others, and of the first p
abbrev pub HasEvent : List ℕ → ℕ → Type 0
HasEvent list p = FewBefore p × (event_length * (p + 1) ≤ length list)

abbrev pub HasEvents : List ℕ → ℕ → Type 0
HasEvents list p = (p ≤ most_short) × (event_length * p ≤ length list)

-- the buffer with an event put behind p others: no byte before it or behind it changes
unfoldable pub with_event : List ℕ → ℕ → Event → List ℕ
with_event list p e = take (event_length * p) list ++ bytes_of_event e ++ drop (event_length * (p + 1)) list
