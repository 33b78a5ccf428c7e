-- `take_out` meets its contract. The loop's invariant: those who stay have closed up as far as position `i`, `kept` of them
-- (`Closed`). The measure is what is left of the positions. Assumes nothing.
use Prim.Native.Nat.{◌-◌}
use Rattle.rules.specs.Action.{kind_number}
use Rattle.queue.proofs.Closing.{Closed}
use Rattle.queue.proofs.change.take_out.Given as goal

abbrev pub invariant-loop-i : goal.invariant-loop-i
invariant-loop-i l = Closed l.initial.table (kind_number l.h) l.n l.table l.kept l.i

abbrev pub decreases-loop-i : goal.decreases-loop-i
decreases-loop-i l = l.i-end - l.i
