-- `leave_head` leaves what `head_left` says: the head is taken out, which keeps the table sound, and then finished.
-- Assumes nothing.
use borrow.Author.Rules.{rules}
use Rattle.rules.specs.Action.{kind_number}
use Rattle.rows.proofs.KindNumbers.{number_known}
use Rattle.rules.specs.Ledger.{ledger_of}
use Rattle.rules.proofs.Sound.Leaving.{head_out_sound, head_committable}
use Rattle.queue.proofs.OwnQueue.{sound_line, are_known}
use Rattle.judging.proofs.leave.leave_head.Goals as goal

pub head-n-requires : goal.head-n-requires
head-n-requires c =
    sound_line c.requires.sound (kind_number c.args.h) (number_known c.args.h)

pub take_out-requires : goal.take_out-requires
take_out-requires c =
    let known = number_known c.args.h in
    record { has_line = sound_line c.requires.sound (kind_number c.args.h) known; live_climb = search rules; are_known = are_known c.requires.sound (kind_number c.args.h) known }

pub returns : goal.returns
returns c =
    rw (c.finish.ensures, c.take_out.ensures, c.head-n.ensures)

pub finish-requires : goal.finish-requires
finish-requires c =
    let entry = ledger_of c.args.table.now c.args.base.now c.args.shadow.now in
    let known = number_known c.args.h in
    let ready = c.requires.has_ready_head in
    let sound = head_out_sound (kind_number c.args.h) known entry c.requires.sound ready in
    let free = head_committable (kind_number c.args.h) known entry c.requires.sound ready in
    rw (c.take_out.ensures, c.head-n.ensures)
    record { sound = sound; live_action = (free.own, free.alive); stores_fit = c.requires.stores_fit }
