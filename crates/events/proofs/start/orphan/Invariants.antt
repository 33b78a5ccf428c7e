-- `orphan` meets its contract. The loop's invariant: the pass has come to action `m` (`PassedTo`). The measure is what is left of
-- the actions. Assumes nothing.
use Prim.Native.Nat.{◌-◌}
use Rattle.events.proofs.Orphans.{PassedTo}
use Rattle.events.proofs.start.orphan.Given as goal

abbrev pub invariant-loop-m : goal.invariant-loop-m
invariant-loop-m l = PassedTo l.initial.table l.n l.table l.m

abbrev pub decreases-loop-m : goal.decreases-loop-m
decreases-loop-m l = l.m-end - l.m
