-- `all_parents_true` meets its contract: where the store has passed, whether all parents pass is whether those of the live actions
-- from `m` on do, `m` the action at the loop's head, and the test decides `m` itself; who is marked has passed. Assumes nothing.
use Prim.Native.Nat.{◌≤◌, ◌-◌}
use mathlib.Core.Path.{◌≡◌}
use Rattle.rules.specs.Range.{up_from, all}
use Rattle.rules.specs.Table.{parents}
use Rattle.rules.specs.Sound.{are_newest_true}
use Rattle.soundness.specs.Passed.{is_true_above, ArePassed}
use Rattle.soundness.proofs.parents.all_parents_true.Given as goal

abbrev pub invariant-loop-m : goal.invariant-loop-m
invariant-loop-m l =
    (1 ≤ l.m)
    × ArePassed l.table l.passed
    × (all (are_newest_true l.table) (parents l.table) ≡ all (is_true_above l.table) (up_from l.m (l.m-end - l.m)))

abbrev pub decreases-loop-m : goal.decreases-loop-m
decreases-loop-m l = l.m-end - l.m
