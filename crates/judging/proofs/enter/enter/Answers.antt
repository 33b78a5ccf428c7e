-- `enter` puts the action at the tail of its queue with the verdict that is settled. There is room: those who wait are distinct
-- actions, and this one isn't among them. Assumes nothing.
use Rattle.rules.specs.Step.{enter_table}
use Rattle.rules.proofs.Sound.QueueChanges.{room_at_tail}
use Rattle.queue.proofs.OwnQueue.{own_kind, sound_line}
use Rattle.judging.proofs.enter.enter.Goals as goal

pub verdict-settled-requires : goal.verdict-settled-requires
verdict-settled-requires c =
    let may = c.requires.may_wait in
    record { sound = c.requires.sound; live_action = (may.begun, may.alive) }

pub put_tail-requires : goal.put_tail-requires
put_tail-requires c =
    let known = own_kind c.args.table.now c.args.n c.kind_of-h.ensures in record { has_line = sound_line c.requires.sound _ known; has_room = room_at_tail c.requires.sound _ known c.args.n (rw c.kind_of-h.ensures c.requires.may_wait) c.requires.unqueued c.from.result }

pub returns : goal.returns
unfolding enter_table
returns c =
    rw (c.put_tail.ensures, c.from.ensures, c.verdict-settled.ensures, c.kind_of-h.ensures)
