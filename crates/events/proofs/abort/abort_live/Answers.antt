-- `abort_live` meets its contract. The loop's invariant: the abort has come to action `m`, with `found` aborted so far
-- (`Reached`). The measure is what is left of the actions. Assumes nothing.
use native.Mathlib.Omega.{arith}
use mathlib.Core.Path.{sym, ◌∙◌}
use Rattle.events.proofs.AbortMarks.{reached_first, live_climb_kept, known_kept, found_few, reached_over, reached_here, reached_last}
use Rattle.events.proofs.abort.abort_live.Goals as goal
use Rattle.events.proofs.abort.abort_live.Goals.{then-is_aborted_by, else-is_aborted_by}

pub loop-m-init : goal.loop-m-init
loop-m-init c = reached_first _ _

pub is_aborted_by-requires : goal.is_aborted_by-requires
is_aborted_by-requires c =
    let reached = c.loop-m.invariant in
    record { live_climb = live_climb_kept _ _ reached c.requires; given = (reached.first, known_kept _ _ reached (omega arith)) }

pub overflow_add-found : goal.overflow_add-found
overflow_add-found c =
    omega (arith, c.requires.few, found_few _ _ c.loop-m.invariant)

pub shape_of-table : goal.shape_of-table
shape_of-table c = c.loop-m.invariant.long

pub loop-m-preserved : goal.loop-m-preserved
loop-m-preserved c =
    let reached = c.loop-m.invariant in
    let tested = sym c.is_aborted_by.ensures in
    elim c.if-is_aborted_by.branch [
      | then-is_aborted_by w ↦
          rw (w.table-is, w.found-is, w.set_state.ensures)
          (reached_here _ _ reached c.requires (omega arith) (tested ∙ w.if-is_aborted_by.true))
      | else-is_aborted_by w ↦
          rw (w.table-is, w.found-is) (reached_over _ _ reached c.requires (omega arith) (tested ∙ w.if-is_aborted_by.false))
    ]

pub returns : goal.returns
returns c =
    let last = reached_last _ _ c.loop-m.invariant (omega arith) in
    record { count = last.0; leaves = last.1 }
