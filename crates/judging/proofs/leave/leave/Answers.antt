-- `leave` meets its contract. The loop's invariant: what is left to leave now, with those who have left, is what was to leave at
-- entry (`StillLeaving`). The measure is the queue's length. Assumes nothing.
use native.Mathlib.Omega.{arith}
use mathlib.Core.Path.{sym, ap, ◌∙◌}
use Rattle.rules.specs.Action.{kind_number}
use Rattle.rows.proofs.KindNumbers.{number_known}
use Rattle.rules.specs.Queue.{queue_length}
use Rattle.rules.specs.Ledger.{Ledger, ledger_of}
use Rattle.rules.proofs.Sound.Leaving.{one_fewer}
use Rattle.queue.proofs.OwnQueue.{sound_line}
use Rattle.judging.proofs.Leaving.{leaving_first, leaving_next, leaving_last}
use Rattle.judging.proofs.leave.leave.Goals as goal

pub loop-h-init : goal.loop-h-init
loop-h-init c =
    leaving_first (kind_number c.args.h) (number_known c.args.h)
    (ledger_of c.args.table.now c.args.base.now c.args.shadow.now) c.requires.sound c.requires.stores_fit

pub is_head_ready-requires : goal.is_head_ready-requires
is_head_ready-requires c =
    sound_line c.loop-h.invariant.sound (kind_number c.args.h) (number_known c.args.h)

pub leave_head-requires : goal.leave_head-requires
leave_head-requires c =
    let inv = c.loop-h.invariant in
    record { sound = inv.sound; stores_fit = inv.fits; has_ready_head = sym c.is_head_ready.ensures ∙ c.loop-h-test.true }

pub overflow_add-left : goal.overflow_add-left
overflow_add-left c =
    let turn = c.loop-h in
    omega (arith, turn.invariant.few)

pub loop-h-smaller : goal.loop-h-smaller
loop-h-smaller c =
    let turn = c.loop-h in
    let ready = sym c.is_head_ready.ensures ∙ c.loop-h-test.true in
    let h = kind_number c.args.h in
    let fewer = one_fewer h (number_known c.args.h) (ledger_of turn.table turn.base turn.shadow) turn.invariant.sound ready in
    let now = ap (λ (l : Ledger). queue_length l.table h) c.leave_head.ensures in
    omega (arith, fewer, now)

pub loop-h-preserved : goal.loop-h-preserved
loop-h-preserved c =
    let turn = c.loop-h in
    let ready = sym c.is_head_ready.ensures ∙ c.loop-h-test.true in
    rw c.leave_head.ensures
    (leaving_next (kind_number c.args.h) (number_known c.args.h) (ledger_of c.args.table.now c.args.base.now c.args.shadow.now)
    (ledger_of turn.table turn.base turn.shadow) turn.left turn.invariant ready)

pub returns : goal.returns
returns c =
    let turn = c.loop-h in
    let done =
    leaving_last (kind_number c.args.h) (ledger_of c.args.table.now c.args.base.now c.args.shadow.now)
    (ledger_of turn.table turn.base turn.shadow) turn.left turn.invariant (sym c.is_head_ready.ensures ∙ c.loop-h-test.false) in
    record { count = sym done.0; leaves = sym done.1 }
