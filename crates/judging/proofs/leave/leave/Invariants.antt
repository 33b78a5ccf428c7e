-- `leave` meets its contract. The loop's invariant: what is left to leave now, with those who have left, is what was to leave at
-- entry (`StillLeaving`). The measure is the queue's length. Assumes nothing.
use Rattle.rules.specs.Action.{kind_number}
use Rattle.rules.specs.Queue.{queue_length}
use Rattle.rules.specs.Ledger.{ledger_of}
use Rattle.judging.proofs.Leaving.{StillLeaving}
use Rattle.judging.proofs.leave.leave.Given as goal

abbrev pub invariant-loop-h : goal.invariant-loop-h
invariant-loop-h l =
    StillLeaving (kind_number l.h) (ledger_of l.initial.table l.initial.base l.initial.shadow) (ledger_of l.table l.base l.shadow) l.left

abbrev pub decreases-loop-h : goal.decreases-loop-h
decreases-loop-h l = queue_length l.table (kind_number l.h)
