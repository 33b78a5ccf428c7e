-- `clear_fields` meets its contract: the fields of the accounts from `from` on, cleared in the table at entry, are those of the
-- accounts from `k` on cleared in the present table, `k` the account at the loop's head. Assumes nothing.
use native.Mathlib.Omega.{arith}
use mathlib.Core.Path.{refl, sym, ◌∙◌}
use borrow.Author.Rules.{rules}
use Rattle.rules.specs.Card.{account_count}
use Rattle.rules.specs.Table.{with_fields}
use Rattle.rules.proofs.Laws.Ranges.{fold_left_next, fold_left_done}
use Rattle.rows.proofs.sets.clear_fields.Goals as goal

pub loop-k-init : goal.loop-k-init
unfolding with_fields
loop-k-init c = (omega arith, refl, refl)

pub loop-k-preserved : goal.loop-k-preserved
loop-k-preserved c = (
  omega arith,
  search rules,
  rw c.put.ensures
      (c.loop-k.invariant.2
      ∙ fold_left_next _ _ account_count _ c.loop-k-test.true),
)

pub returns : goal.returns
returns c = sym (c.loop-k.invariant.2 ∙ fold_left_done _ _ account_count _ c.loop-k-test.false)
