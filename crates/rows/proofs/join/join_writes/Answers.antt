-- `join_writes` meets its contract: the entries made from the table at entry are the entries made in place (`Joining`), and
-- of those the accounts from `k` on are left to join in the present table, `k` the account at the loop's head. Assumes
-- nothing.
use native.Mathlib.Omega.{arith}
use mathlib.Core.Path.{refl, sym, ◌∙◌}
use borrow.Author.Rules.{rules}
use Rattle.rules.specs.Card.{accounts, account_count}
use Rattle.rules.proofs.Laws.Ranges.{fold_left_next, fold_left_done}
use Rattle.rows.proofs.Joining.{writes_in_place}
use Rattle.rows.proofs.join.join_writes.Goals as goal

pub loop-k-init : goal.loop-k-init
unfolding accounts
loop-k-init c = (omega arith, refl, writes_in_place _ _ _ c.requires.are_two)

pub loop-k-preserved : goal.loop-k-preserved
loop-k-preserved c = (
  omega arith,
  search rules,
  rw (c.set_write_entry.ensures, c.joined_write-joined.ensures)
      (c.loop-k.invariant.2 ∙ fold_left_next _ _ account_count _ c.loop-k-test.true),
)

pub returns : goal.returns
returns c = sym (c.loop-k.invariant.2 ∙ fold_left_done _ _ account_count _ c.loop-k-test.false)
