-- `take_out_of_both` closes up one queue, which keeps the table sound, and then the other. Assumes nothing.
use native.Mathlib.Omega.{arith}
use borrow.Author.Rules.{rules}
use Rattle.rules.specs.Kind.{top_kind, sub_kind}
use Rattle.rules.specs.Step.{out_of_both}
use Rattle.rules.proofs.Sound.TakingOut.{half_sound}
use Rattle.queue.proofs.OwnQueue.{sound_line, are_known}
use Rattle.judging.proofs.abort.take_out_of_both.Goals as goal

pub take_out-requires : goal.take_out-requires
take_out-requires c =
    let sound = c.requires in
    record { has_line = sound_line sound top_kind (omega arith); live_climb = search rules; are_known = are_known sound top_kind (omega arith) }

pub take_out-requires-2 : goal.take_out-requires-2
take_out-requires-2 c =
    let sound = half_sound c.requires c.args.n in
    rw c.take_out.ensures record { has_line = sound_line sound sub_kind (omega arith); live_climb = record { long = sound.long; few = sound.few; known = sound.known; climb = sound.climb }; are_known = are_known sound sub_kind (omega arith) }

pub returns : goal.returns
unfolding out_of_both
returns c =
    rw (c.take_out-2.ensures, c.take_out.ensures)
