-- `seen_from` gives the low word of a sum where the sum is an amount, which is then its word. Assumes nothing.
use native.Mathlib.Omega.{arith}
use mathlib.Core.Path.{◌≡◌, sym, ◌∙◌}
use mathlib.Core.Bool.{Bool, true, false, cond}
use Rattle.std.specs.Prelude.{◌<◌, Some, None}
use Rattle.std.specs.Bool.{then_some}
use Rattle.rules.specs.Amount.{amount_word, is_amount}
use Rattle.amounts.specs.declared.sum.Sum.{Sum}
use Rattle.amounts.specs.Sum.{word_values, value_of}
use Rattle.amounts.proofs.Sums.{word_of_sum}
use Rattle.ancestry.proofs.charge.seen_from.Goals as goal

by_test : (s : Sum) (is : Bool) → s.low < word_values → is ≡ is_amount (value_of s) →
    then_some is s.low ≡ cond (is_amount (value_of s)) (Some (amount_word (value_of s))) None
by_test s true fits test = rw (sym test, word_of_sum s fits (sym test))
by_test s false fits test = rw (sym test)

pub returns : goal.returns
returns c =
    let sum = c.args.sum in
    λ i. record { moves = c.args.moves; sum = (c.then_some.ensures ∙ by_test sum c.is_amount.result (omega arith) c.is_amount.ensures) i }
