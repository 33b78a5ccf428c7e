-- `take_out` meets its contract. The loop's invariant: those who stay have closed up as far as position `i`, `kept` of them
-- (`Closed`). The measure is what is left of the positions. Assumes nothing.
use native.Mathlib.Omega.{arith}
use Rattle.queue.proofs.Closing.{closed_first, live_climb_kept, known_kept, closed_over, closed_here, closed_last}
use mathlib.Core.Path.{sym, ◌∙◌}
use Rattle.queue.proofs.change.take_out.Goals as goal
use Rattle.queue.proofs.change.take_out.Goals.{then-not-is_aborted_by, else-not-is_aborted_by}

pub loop-i-init : goal.loop-i-init
loop-i-init c = closed_first _ _ _

pub is_aborted_by-requires : goal.is_aborted_by-requires
is_aborted_by-requires c =
    let closed = c.loop-i.invariant in
    let number = c.entry_number-m.ensures in record { live_climb = live_climb_kept _ _ _ closed c.requires.has_line.known c.requires.live_climb; given = known_kept _ _ _ closed c.requires.has_line.known c.requires.live_climb c.requires.are_known (omega arith) number }

pub returns : goal.returns
returns c =
    rw c.set_queue_length.ensures
    (closed_last _ _ _ c.loop-i.invariant (omega arith))

pub loop-i-preserved : goal.loop-i-preserved
loop-i-preserved c =
    let closed = c.loop-i.invariant in
    let number = c.entry_number-m.ensures in
    let tested = c.is_aborted_by.ensures in
    elim c.if-not-is_aborted_by.branch [
      | then-not-is_aborted_by w ↦
          rw (w.table-is, w.kept-is, w.move_entry.ensures)
          (closed_here _ _ _ closed c.requires.has_line.known c.requires.live_climb c.requires.are_known (omega arith) number
          (sym tested ∙ w.if-not-is_aborted_by.true))
      | else-not-is_aborted_by w ↦
          rw (w.table-is, w.kept-is)
          (closed_over _ _ _ closed c.requires.has_line.known c.requires.live_climb c.requires.are_known (omega arith) number
          (sym tested ∙ w.if-not-is_aborted_by.false))
    ]
