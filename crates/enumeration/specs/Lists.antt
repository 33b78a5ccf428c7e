-- RULES 15.3: all short days, one after the other: a search through the events that may come next, in the order of RULES 15.2.
-- Assumes nothing.
use Rattle.std.specs.Prelude.{ℕ, zero, suc, ◌+◌, ◌/◌, ◌%◌, Bool, true, false, List, [], ◌∷◌, ◌++◌, map, eqb}
use Rattle.rules.specs.Event.{Event, event_of, start_code}
use Rattle.rules.specs.Ledger.{Ledger}
use Rattle.rules.specs.Cause.{cause_of}
use Rattle.rules.specs.Step.{step}
use Rattle.rules.specs.Serial.Demand.{opening_under}
use Rattle.enumeration.specs.ShortDay.{short_account, card_for}

-- the numbers that are tried with each code, from 0 on: before the last of six events at most five have been given
abbrev pub numbers_tried : ℕ
numbers_tried = 6

-- the events that are tried at each place, the candidates: each number with each of the five codes
abbrev pub candidate_count : ℕ
candidate_count = 30

-- the candidate c, counted from 0, with p events before it: code before number
abbrev pub code_tried : ℕ → ℕ
code_tried c = start_code + c / numbers_tried

abbrev pub number_tried : ℕ → ℕ
number_tried c = c % numbers_tried

abbrev pub candidate : ℕ → ℕ → Event
candidate p c = event_of (code_tried c) (number_tried c) short_account (card_for (code_tried c) p)

-- the lists that begin with e, by whether it is taken: e before each list that follows it, or none
unfoldable pub beginning_by : Bool → (Ledger → List (List Event)) → Ledger → Event → List (List Event)
beginning_by true follow s e = map (λ es. e ∷ es) (follow (step s e).after)
beginning_by false follow s e = []

abbrev pub beginning : (Ledger → List (List Event)) → Ledger → Event → List (List Event)
beginning follow s e = beginning_by (eqb (cause_of s.table s.base s.shadow e) 0) follow s e

-- those that begin with one of the candidates from c on, of which so many are left
unfoldable pub beginning_from : (Ledger → List (List Event)) → ℕ → Ledger → ℕ → ℕ → List (List Event)
beginning_from follow p s zero c = []
beginning_from follow p s (suc left) c = beginning follow s (candidate p c) ++ beginning_from follow p s left (suc c)

-- all lists of k events that s takes, with p events before them
unfoldable pub lists : ℕ → ℕ → Ledger → List (List Event)
lists zero p s = [] ∷ []
lists (suc k) p s = beginning_from (lists k (suc p)) p s candidate_count 0

unfoldable pub short_days : ℕ → ℕ → List (List Event)
short_days k rule = lists k 0 (opening_under rule)
