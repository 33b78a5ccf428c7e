-- `ends_held` meets its contract: the end times once all actions have been counted in are the present ones once those from `m` on
-- have been, `m` the action at the loop's head. Assumes nothing.
use Prim.Native.Nat.{◌≤◌, ◌-◌}
use mathlib.Core.Path.{◌≡◌}
use Rattle.rules.specs.Range.{up_from, fold}
use Rattle.soundness.specs.Held.{counted_in, ends_held}
use Rattle.soundness.proofs.held.ends_held.Given as goal

abbrev pub invariant-loop-m : goal.invariant-loop-m
invariant-loop-m l =
    (l.m ≤ l.m-end) × (ends_held l.table l.p ≡ fold (counted_in l.table l.p) (up_from l.m (l.m-end - l.m)) l.ends)

abbrev pub decreases-loop-m : goal.decreases-loop-m
decreases-loop-m l = l.m-end - l.m
