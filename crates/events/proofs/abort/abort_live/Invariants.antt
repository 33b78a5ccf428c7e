-- `abort_live` meets its contract. The loop's invariant: the abort has come to action `m`, with `found` aborted so far
-- (`Reached`). The measure is what is left of the actions. Assumes nothing.
use Prim.Native.Nat.{◌-◌}
use Rattle.events.proofs.AbortMarks.{Reached}
use Rattle.events.proofs.abort.abort_live.Given as goal

abbrev pub invariant-loop-m : goal.invariant-loop-m
invariant-loop-m l = Reached l.initial.table l.n l.table l.found l.m

abbrev pub decreases-loop-m : goal.decreases-loop-m
decreases-loop-m l = l.m-end - l.m
