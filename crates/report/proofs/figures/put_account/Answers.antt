-- `put_account` puts the own adds and the total, whose words stand for them. Assumes nothing.
use native.Mathlib.Numerals.{add-one}
use native.Mathlib.Omega.{arith}
use mathlib.Core.Path.{ap, ◌∙◌}
use lib.ListN.{length-set}
use Rattle.rules.specs.Amount.{is_amount}
use Rattle.rules.proofs.Laws.Amounts.{word_read_back}
use Rattle.amounts.proofs.Sums.{word_of_sum}
use Rattle.report.proofs.figures.put_account.Goals as goal

pub bounds-report-at-2 : goal.bounds-report-at-2
bounds-report-at-2 c = simp length-set (omega arith)

pub shape_of-report : goal.shape_of-report
shape_of-report c = simp length-set

pub returns : goal.returns
returns c =
    let args = c.args in
    let fits = c.requires.figures_fit.totals args.n args.k c.requires.has_line.0 c.requires.has_line.1 in
    rw (
      add-one args.at,
      ← c.total-all.ensures,
      word_of_sum c.total-all.result (omega arith) (ap is_amount c.total-all.ensures ∙ fits),
      ← c.own_adds-own.ensures,
      word_read_back c.own_adds-own.result (omega arith),
    )
