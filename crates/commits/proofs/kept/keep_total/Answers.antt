-- `keep_total` puts the low word of the sum, which is the sum's word, since the sum is an amount. Assumes nothing.
use native.Mathlib.Omega.{arith}
use mathlib.Core.Path.{sym, ap, ◌∙◌}
use Rattle.rules.specs.Amount.{is_amount}
use Rattle.amounts.proofs.Sums.{word_of_sum}
use Rattle.commits.proofs.kept.keep_total.Goals as goal

pub returns : goal.returns
returns c =
    let sum = c.kept_after-sum in
    let word = word_of_sum sum.result (omega arith) (ap is_amount sum.ensures ∙ c.requires.keeps_amount) in
    rw (c.set_kept.ensures, sym word, sum.ensures)
