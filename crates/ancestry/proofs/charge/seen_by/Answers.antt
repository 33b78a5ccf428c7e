-- `seen_by` meets its contract. The loop's invariant: the walk has come to `at`, with the pending sums before it summed up
-- (`Summed`). The measure is the moves left to the store. Assumes nothing.
use native.Mathlib.Omega.{arith}
use mathlib.Core.Path.{ap, ◌∙◌}
use Rattle.amounts.specs.Word.{word_at}
use Rattle.ancestry.proofs.Summing.{summed_first, moves_few, room_left, nearer, summed_next, summed_last}
use Rattle.ancestry.proofs.charge.seen_by.Goals as goal

pub loop-at-init : goal.loop-at-init
loop-at-init c = rw c.of_word-sum.ensures (summed_first _ _ _ _ (c.requires.readable.known, c.requires.readable.alive))

pub plus-sum-requires : goal.plus-sum-requires
plus-sum-requires c = room_left _ _ _ _ c.loop-at.invariant

pub overflow_add-moves : goal.overflow_add-moves
overflow_add-moves c = omega (arith, moves_few _ _ _ _ c.loop-at.invariant)

pub loop-at-smaller : goal.loop-at-smaller
loop-at-smaller c =
    let loop = c.loop-at in
    rw c.parent-at.ensures (nearer _ _ _ _ loop.invariant c.requires.readable.sound c.requires.charge.0 (omega (arith, loop.invariant.from.0)) (omega arith))

pub loop-at-preserved : goal.loop-at-preserved
loop-at-preserved c =
    let loop = c.loop-at in
    rw (c.plus-sum.ensures, c.pending.ensures, c.parent-at.ensures)
    (summed_next _ _ _ _ loop.invariant c.requires.readable.sound c.requires.charge.0 (omega arith) (omega arith))

pub plus-requires : goal.plus-requires
plus-requires c = room_left _ _ _ _ c.loop-at.invariant

pub returns : goal.returns
returns c =
    let base = c.args.base.now in
    let loop = c.loop-at in
    let amount = c.word_at-amount in
    let there = amount.ensures ∙ ap (word_at base) c.base_place.ensures in
    c.seen_from.ensures
    ∙ rw c.plus.ensures (summed_last _ base _ _ loop.invariant (omega arith) amount.result there (omega arith))
