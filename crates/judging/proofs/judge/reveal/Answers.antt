-- `reveal` leaves what `revealed_table` says, by whether the verdict is failed. Assumes nothing.
use native.Mathlib.Omega.{arith}
use borrow.Author.Rules.{rules}
use Rattle.rules.proofs.Laws.Kinds.{kind_known}
use Rattle.queue.proofs.OwnQueue.{own_kind, sound_line, stands_once, are_known}
use Rattle.judging.specs.Reveal.{revealed_table}
use Rattle.judging.proofs.judge.reveal.Goals as goal

pub kind_of-h-requires : goal.kind_of-h-requires
kind_of-h-requires c =
    let may = (c.requires.sound.lines _ (kind_known _)).waits c.args.n c.requires.queued in
    record { long = search rules; known = omega (arith, may.begun, c.requires.sound.few) }

pub set_state-requires : goal.set_state-requires
set_state-requires c =
    let may = (c.requires.sound.lines _ (kind_known _)).waits c.args.n c.requires.queued in
    record { long = search rules; known = omega (arith, may.begun, c.requires.sound.few) }

pub returns-then-failed : goal.returns-then-failed
unfolding revealed_table
returns-then-failed c =
    rw (c.if-failed.true, c.set_state.ensures, c.take_out.ensures, c.kind_of-h.ensures)

pub returns-else-failed : goal.returns-else-failed
unfolding revealed_table
returns-else-failed c =
    rw (c.if-failed.false, c.mark_ready.ensures, c.kind_of-h.ensures)

pub take_out-requires : goal.take_out-requires
take_out-requires c =
    let known = own_kind c.args.table.now c.args.n c.kind_of-h.ensures in
    record {
      has_line = sound_line c.requires.sound _ known;
      live_climb = search rules;
      are_known = are_known c.requires.sound _ known;
    }

pub mark_ready-requires : goal.mark_ready-requires
mark_ready-requires c =
    let known = own_kind c.args.table.now c.args.n c.kind_of-h.ensures in
    record { has_line = sound_line c.requires.sound _ known; stands_once = stands_once c.requires.sound _ known }
