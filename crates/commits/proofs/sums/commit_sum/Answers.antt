-- `commit_sum` adds n's pending sum to what its parent holds, as `commit_sum` does; in a sound table a parent has a row.
-- Assumes nothing.
use native.Mathlib.Omega.{arith}
use mathlib.Core.Path.{◌∙◌}
use Rattle.rules.specs.Cause.{commit_sum}
use Rattle.amounts.proofs.Sums.{room_for_second, value_of_two}
use Rattle.commits.proofs.sums.commit_sum.Goals as goal

pub held_word-requires : goal.held_word-requires
held_word-requires c =
    let known = c.requires.sound.0.known c.args.n c.requires.sound.1 in
    omega (arith, known, c.parent-p.ensures, c.requires.sound.0.few, c.requires.sound.0.long)

pub plus-requires : goal.plus-requires
plus-requires c = rw c.of_word.ensures (room_for_second c.held_word.result (omega arith))

pub returns : goal.returns
unfolding commit_sum
returns c =
    let own = c.pending in
    let held = c.held_word in
    let parent = c.parent-p in
    rw (c.plus.ensures, c.of_word.ensures)
    (value_of_two held.result own.result (omega arith) (omega arith) ∙ rw (held.ensures, own.ensures, parent.ensures))
