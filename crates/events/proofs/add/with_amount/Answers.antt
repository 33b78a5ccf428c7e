-- `with_amount` makes a sum of two words, the second of which is the card's first. Assumes nothing.
use native.Mathlib.Omega.{arith}
use mathlib.Core.Path.{ap, ◌∙◌}
use lib.IntN.{◌+ℤ◌}
use Rattle.rules.specs.Amount.{amount_of, amount_in}
use Rattle.amounts.specs.Sum.{value_of, plus_word}
use Rattle.amounts.proofs.Sums.{room_for_second, value_of_two}
use Rattle.events.proofs.add.with_amount.Goals as goal

pub plus-requires : goal.plus-requires
plus-requires c = rw c.of_word.ensures (room_for_second _ (omega arith))

pub returns : goal.returns
unfolding amount_in
returns c =
    let word = c.args.word in
    let added = c.word_at.result in
    ap value_of (c.plus.ensures ∙ ap (λ sum. plus_word sum added) c.of_word.ensures)
    ∙ value_of_two word added (omega arith) (omega arith)
    ∙ ap (λ x. amount_of word +ℤ amount_of x) c.word_at.ensures
