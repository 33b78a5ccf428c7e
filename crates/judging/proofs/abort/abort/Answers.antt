-- `abort` answers and leaves what the rule's abort does: whom it reaches is taken out of the queues and then aborted, each of which
-- keeps the table sound, and then the heads are tried. Assumes nothing.
use Rattle.rules.specs.Ledger.{ledger_of}
use Rattle.rules.specs.Step.{dropped, abort_left, abort}
use Rattle.rules.proofs.Sound.TakingOut.{out_sound}
use Rattle.rules.proofs.Sound.Kept.{dropped_sound}
use Rattle.judging.proofs.Leaving.{out_count}
use Rattle.judging.proofs.abort.abort.Goals as goal

pub abort_live-count-requires : goal.abort_live-count-requires
abort_live-count-requires c =
    let sound = out_sound c.requires.sound c.args.n in
    rw c.take_out_of_both.ensures (record { long = sound.long; few = sound.few; known = sound.known; climb = sound.climb })

pub returns : goal.returns
unfolding abort abort_left dropped
returns c =
    rw (
      c.abort_live-count.ensures.count,
      c.take_out_of_both.ensures,
      out_count c.requires.sound c.args.n,
    )
    (rw (c.leave_both-left.ensures.count, c.leave_both-left.ensures.leaves, c.abort_live-count.ensures.leaves, c.take_out_of_both.ensures))

pub leave_both-left-requires : goal.leave_both-left-requires
unfolding dropped
leave_both-left-requires c =
    let entry = ledger_of c.args.table.now c.args.base.now c.args.shadow.now in
    rw (c.abort_live-count.ensures.leaves, c.take_out_of_both.ensures)
    record { sound = dropped_sound entry c.requires.sound c.args.n; stores_fit = c.requires.stores_fit }
