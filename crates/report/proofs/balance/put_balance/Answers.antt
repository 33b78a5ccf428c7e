-- `put_balance` puts the account, the words at its card in both stores, and that of the sum between them. Assumes nothing.
use native.Mathlib.Numerals.{add-one, add-two, add-three}
use native.Mathlib.Omega.{arith}
use mathlib.Core.Path.{ap, ◌∙◌}
use lib.ListN.{length-set}
use Rattle.rules.specs.Tree.{balance_words}
use Rattle.rules.proofs.Laws.Amounts.{word_read_back}
use Rattle.amounts.specs.Word.{word_at}
use Rattle.report.proofs.Fitting.{store_word}
use Rattle.report.proofs.balance.put_balance.Goals as goal

pub bounds-report-at-2 : goal.bounds-report-at-2
bounds-report-at-2 c = simp length-set (omega arith)

pub bounds-report-at-3 : goal.bounds-report-at-3
bounds-report-at-3 c = simp length-set (omega arith)

pub bounds-report-at-4 : goal.bounds-report-at-4
bounds-report-at-4 c = simp length-set (omega arith)

pub shape_of-report : goal.shape_of-report
shape_of-report c = simp length-set

pub returns : goal.returns
unfolding balance_words
returns c =
    let args = c.args in
    let opening_word = c.word_at.ensures ∙ ap (word_at args.opening.now) c.base_place.ensures in
    let closing_word = c.word_at-2.ensures ∙ ap (word_at args.base.now) c.base_place-2.ensures in
    rw (
      add-one args.at,
      add-two args.at,
      add-three args.at,
      store_word args.opening.now args.k c.word_at.result opening_word (omega arith),
      store_word args.base.now args.k c.word_at-2.result closing_word (omega arith),
      ← c.kept.ensures,
      word_read_back c.kept.result (omega arith),
    )
