-- RULES 13, newest end times (RULES 4.10 and 4.11): what stands in the rows of the parents after a list of events, and whose clash is
-- known. proofs/Cases.antt proves all of them by one theorem. Assumes nothing.
use Rattle.std.specs.Prelude.{ℕ, Bool, true, false, not, eqb}
use mathlib.Core.List.{List, [], ◌∷◌, ◌++◌, map, flat_map}
use Rattle.rules.specs.declared.Answer.{Answer}
use Rattle.rules.specs.declared.Answer.TheVariants.{Started, Read, Written, Committed}
use Rattle.rules.specs.Range.{filter}
use Rattle.rules.specs.Card.{accounts}
use Rattle.rules.specs.Table.{newest}
use Rattle.rules.specs.Stale.{is_known_clash}
use Rattle.rules.specs.Event.{Event, start_under, read_by, write_by, commit_of}
use Rattle.rules.specs.Run.{Ran, run}
use Rattle.cases.specs.Case.{opening, filled_with}

-- a list of events, the parents whose newest end times are shown after it, and the actions of which is asked whether their clash is
-- known
pub record NewestCase : Type 0 where
  pub events : List Event
  pub parents : List ℕ
  pub actions : List ℕ

-- a newest end time that is not 0
pub record Noted : Type 0 where
  pub parent : ℕ
  pub account : ℕ
  pub time : ℕ

pub record NewestResult : Type 0 where
  pub answers : List Answer
  pub newests : List Noted
  pub known : List Bool

abbrev noted_at : List ℕ → ℕ → List Noted
noted_at w p =
    map (λ k. record { parent = p; account = k; time = newest w p k }) (filter (λ k. not (eqb (newest w p k) 0)) accounts)

unfoldable pub newests_in : NewestCase → Ran → NewestResult
newests_in c ran =
    record {
      answers = ran.answers;
      newests = flat_map (noted_at ran.after.table) c.parents;
      known = map (is_known_clash ran.after.table) c.actions;
    }

unfoldable pub newests_after : NewestCase → NewestResult
newests_after c = newests_in c (run opening c.events)

-- ---- the lists

abbrev write1 : ℕ → ℕ → Event
write1 n k = write_by n k (filled_with 1)

-- 1, and 2, which goes on from there
abbrev one_writer : List Event
one_writer = start_under 0 ∷ write1 1 0 ∷ commit_of 1 ∷ []

abbrev then_reader : List Event
then_reader = start_under 0 ∷ read_by 1 0 ∷ commit_of 1 ∷ []

-- 3, and 4
abbrev nested_writer : List Event
nested_writer = start_under 0 ∷ start_under 1 ∷ write1 2 3 ∷ commit_of 2 ∷ []

abbrev then_again : List Event
then_again = commit_of 1 ∷ start_under 0 ∷ []

-- 5, and 6
abbrev three_writers : List Event
three_writers =
    start_under 0 ∷ read_by 1 9
    ∷ start_under 0 ∷ write1 2 0 ∷ commit_of 2
    ∷ start_under 0 ∷ write1 3 0 ∷ write1 3 1 ∷ commit_of 3
    ∷ start_under 0 ∷ read_by 4 0
    ∷ start_under 0 ∷ write1 5 1 ∷ commit_of 5 ∷ []

abbrev then_readers : List Event
then_readers = read_by 4 1 ∷ commit_of 4 ∷ commit_of 1 ∷ []

-- 7: case 9 but its last event
abbrev handed_up : List Event
handed_up =
    start_under 0 ∷ start_under 1 ∷ read_by 2 6 ∷ start_under 0 ∷ write1 3 6 ∷ commit_of 3 ∷ start_under 1 ∷ read_by 4 6
    ∷ commit_of 2 ∷ commit_of 4 ∷ []

abbrev asked : List Event → List ℕ → List ℕ → NewestCase
asked events parents actions = record { events = events; parents = parents; actions = actions }

unfoldable pub newest_cases : List NewestCase
newest_cases =
    asked one_writer (0 ∷ []) []
    ∷ asked (one_writer ++ then_reader) (0 ∷ []) []
    ∷ asked nested_writer (0 ∷ 1 ∷ []) (1 ∷ [])
    ∷ asked (nested_writer ++ then_again) (0 ∷ 1 ∷ []) (1 ∷ [])
    ∷ asked three_writers (0 ∷ []) (1 ∷ 4 ∷ [])
    ∷ asked (three_writers ++ then_readers) (0 ∷ []) []
    ∷ asked handed_up (0 ∷ []) (1 ∷ [])
    ∷ []

-- ---- what they give

abbrev noted : ℕ → ℕ → ℕ → Noted
noted p k t = record { parent = p; account = k; time = t }

abbrev gives : List Answer → List Noted → List Bool → NewestResult
gives answers newests known = record { answers = answers; newests = newests; known = known }

abbrev wrote_one : List Answer
wrote_one = Started 1 ∷ Written ∷ Committed 1 ∷ []

abbrev wrote_nested : List Answer
wrote_nested = Started 1 ∷ Started 2 ∷ Written ∷ Committed 1 ∷ []

abbrev wrote_three : List Answer
wrote_three =
    Started 1 ∷ Read 0 1
    ∷ Started 2 ∷ Written ∷ Committed 1
    ∷ Started 3 ∷ Written ∷ Written ∷ Committed 2
    ∷ Started 4 ∷ Read 0 1
    ∷ Started 5 ∷ Written ∷ Committed 3 ∷ []

unfoldable pub newests_expected : List NewestResult
newests_expected =
    gives wrote_one (noted 0 0 1 ∷ []) []
    ∷ gives (wrote_one ++ (Started 1 ∷ Read 0 1 ∷ Committed 0 ∷ [])) (noted 0 0 1 ∷ []) []
    ∷ gives wrote_nested (noted 1 3 1 ∷ []) (false ∷ [])
    ∷ gives (wrote_nested ++ (Committed 1 ∷ Started 1 ∷ [])) (noted 0 3 1 ∷ []) (false ∷ [])
    ∷ gives wrote_three (noted 0 0 2 ∷ noted 0 1 3 ∷ []) (false ∷ false ∷ [])
    ∷ gives (wrote_three ++ (Read 0 1 ∷ Committed 0 ∷ Committed 0 ∷ [])) (noted 0 0 2 ∷ noted 0 1 3 ∷ []) []
    ∷ gives
    (Started 1 ∷ Started 2 ∷ Read 0 2 ∷ Started 3 ∷ Written ∷ Committed 1 ∷ Started 4 ∷ Read 0 2 ∷ Committed 0 ∷ Committed 0 ∷ [])
    (noted 0 6 1 ∷ []) (true ∷ [])
    ∷ []
