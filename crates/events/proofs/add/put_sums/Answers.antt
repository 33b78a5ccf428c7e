-- `put_sums` makes the pending sum and the own adds with the card's amount. As both are amounts, the low words that it puts are
-- theirs. Assumes nothing.
use native.Mathlib.Omega.{arith}
use mathlib.Core.Path.{◌≡◌, ap, sym, ◌∙◌}
use mathlib.Core.Bool.{true}
use Prim.Native.Nat.{ℕ, ◌<◌}
use lib.IntN.{ℤ, ◌+ℤ◌}
use Rattle.amounts.specs.declared.sum.Sum.{Sum}
use Rattle.amounts.specs.Sum.{value_of, word_values}
use Rattle.rules.specs.Amount.{amount_of, amount_word, is_amount, amount_in}
use Rattle.rules.specs.Table.{pending_sum, own_adds}
use Rattle.rules.specs.Step.{add_table}
use Rattle.rules.proofs.Laws.Tests.{or_fails, not_fails}
use Rattle.amounts.proofs.Sums.{word_of_sum}
use Rattle.events.proofs.add.put_sums.Goals as goal

-- the word of a sum that is an amount is the low word that was made
word_made :
    (sum : Sum) (x : ℕ) (given z : ℤ) → sum.low < word_values → is_amount (z +ℤ given) ≡ true →
    value_of sum ≡ amount_of x +ℤ given → amount_of x ≡ z → amount_word (z +ℤ given) ≡ sum.low
word_made sum x given z fits is made left =
    let same = made ∙ ap (λ y. y +ℤ given) left in
    ap amount_word (sym same) ∙ word_of_sum _ fits (ap is_amount same ∙ is)

pub returns : goal.returns
unfolding add_table
returns c =
    let neither = (or_fails _ _).0 c.requires.card_value in
    let given = amount_in c.args.card.now in
    let pending_fits = (not_fails (is_amount (pending_sum c.args.table.now c.args.n c.args.k +ℤ given))).0 neither.0 in
    let own_fits = (not_fails (is_amount (own_adds c.args.table.now c.args.n c.args.k +ℤ given))).0 neither.1 in
    rw (
      ← c.set_write_entry.ensures,
      word_made _ _ given _ (omega arith) pending_fits c.with_amount-sum.ensures (ap amount_of c.pending.ensures),
      word_made _ _ given _ (omega arith) own_fits c.with_amount-own.ensures (ap amount_of c.own_adds.ensures),
      ← c.set_pending.ensures,
    )
    c.set_own_adds.ensures
