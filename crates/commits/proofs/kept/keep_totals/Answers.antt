-- `keep_totals` meets its contract: of the sums made from the table at entry those of the accounts from `k` on are left to put
-- into the present table, `k` the account at the loop's head; and the present table makes the same ones (`Keeping`).
-- Assumes nothing.
use native.Mathlib.Omega.{arith}
use mathlib.Core.Path.{refl, sym, ap, ◌∙◌}
use borrow.Author.Rules.{rules}
use Rattle.rules.specs.Card.{account_count, charge_accounts, IsCharge}
use Rattle.rules.specs.Amount.{amount_word, is_amount}
use Rattle.rules.specs.Table.{with_fields}
use Rattle.rules.specs.Commit.{keep_table}
use Rattle.rules.proofs.Laws.Ranges.{fold_left_next, fold_left_done}
use Rattle.commits.proofs.Keeping.{same_next}
use Rattle.commits.proofs.kept.keep_totals.Goals as goal

pub loop-k-init : goal.loop-k-init
unfolding keep_table with_fields charge_accounts
loop-k-init c = (omega arith, omega arith, refl, λ j later is. refl, refl)

pub keep_total-requires : goal.keep_total-requires
keep_total-requires c =
    let loop = c.loop-k in
    let charge : IsCharge loop.k = omega arith in
    let fits = ap is_amount (loop.invariant.3 loop.k (omega arith) charge) ∙ c.requires.kept_fit loop.k charge in
    record { has_row = search rules; has_row_2 = search rules; charge = search rules; keeps_amount = fits }

pub loop-k-preserved : goal.loop-k-preserved
loop-k-preserved c =
    let loop = c.loop-k in
    let args = c.args in
    let charge : IsCharge loop.k = omega arith in
    let made = ap amount_word (loop.invariant.3 loop.k (omega arith) charge) in (
      omega arith,
      omega arith,
      search rules,
      rw c.keep_total.ensures (same_next args.table.now loop.table args.n args.p loop.k _ c.requires.are_two charge loop.invariant.3),
      rw (c.keep_total.ensures, made) (loop.invariant.4 ∙ fold_left_next _ _ account_count _ c.loop-k-test.true),
    )

pub returns : goal.returns
returns c = sym (c.loop-k.invariant.4 ∙ fold_left_done _ _ account_count _ c.loop-k-test.false)
