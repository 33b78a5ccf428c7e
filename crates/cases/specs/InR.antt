-- One list worked through for R: an action is in R where it committed and all above it did, whoever has its number or theirs
-- later. proofs/Cases.antt computes it. Assumes nothing.
use Rattle.std.specs.Prelude.{Bool, true, false, List, [], ◌∷◌, map}
use Rattle.rules.specs.Range.{up_from}
use Rattle.rules.specs.Event.{Event, start_under, commit_of, abort_of, enter_of, judge_of}
use Rattle.rules.specs.Run.{Ran, run}
use Rattle.rules.specs.Serial.Starts.{lineage_of, is_in_r}
use Rattle.cases.specs.Case.{opening, told_in}

unfoldable pub nested : List Event
nested =
    -- the first, number 1, commits at the end; the second, 2 under it, commits by leaving its queue, after the third, 3 under 2,
    -- has committed
    start_under 0
    ∷ start_under 1
    ∷ start_under 2
    ∷ commit_of 3
    ∷ enter_of 2
    ∷ judge_of 2
    -- the fourth, under 1 and given 2 again, gives up
    ∷ start_under 1
    ∷ abort_of 2
    -- the fifth, under 1 and given 2 again, gives up too, after the sixth, under it and given 3 again, has committed
    ∷ start_under 1
    ∷ start_under 2
    ∷ commit_of 3
    ∷ abort_of 2
    ∷ commit_of 1
    -- the seventh, given 1 again, is still live
    ∷ start_under 0
    ∷ []

-- of each action, in the order of the starts, whether it is in R
unfoldable pub in_rBy : Ran → List Bool
in_rBy ran =
    let h = lineage_of nested (told_in ran) in
    map (is_in_r h) (up_from 1 h.starts)

unfoldable pub nested_in_r : List Bool
nested_in_r = in_rBy (run opening nested)

unfoldable pub nested_expected : List Bool
nested_expected = true ∷ true ∷ true ∷ false ∷ false ∷ false ∷ false ∷ []
