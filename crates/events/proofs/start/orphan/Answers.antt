-- `orphan` meets its contract. The loop's invariant: the pass has come to action `m` (`PassedTo`). The measure is what is left of
-- the actions. Assumes nothing.
use native.Mathlib.Omega.{arith}
use Rattle.events.proofs.Orphans.{passed_none, passed_one, passed_all}
use Rattle.events.proofs.start.orphan.Goals as goal

pub loop-m-init : goal.loop-m-init
loop-m-init c = passed_none _ _

pub loop-m-preserved : goal.loop-m-preserved
loop-m-preserved c =
    rw c.orphan_one.ensures
    (passed_one _ _ c.loop-m.invariant (omega arith))

pub shape_of-table : goal.shape_of-table
shape_of-table c = c.loop-m.invariant.long

pub returns : goal.returns
returns c = passed_all _ _ c.loop-m.invariant (omega arith)
