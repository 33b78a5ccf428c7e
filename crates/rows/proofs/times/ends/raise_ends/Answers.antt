-- `raise_ends` meets its contract: the row at entry, raised for all accounts, is the present one raised for those from `k` on, `k`
-- the account at the loop's head. Assumes nothing.
use mathlib.Core.Path.{refl, sym, ◌∙◌}
use Rattle.rules.specs.Card.{account_count, accounts}
use Rattle.rules.proofs.Laws.Ranges.{fold_left_next, fold_left_done}
use Rattle.rows.specs.Ends.{raised_ends}
use Rattle.rows.proofs.times.ends.raise_ends.Goals as goal

pub loop-k-init : goal.loop-k-init
unfolding raised_ends accounts
loop-k-init c = refl

pub loop-k-preserved : goal.loop-k-preserved
loop-k-preserved c =
    let loop = c.loop-k in
    rw c.raise_end.ensures
    (loop.invariant ∙ fold_left_next _ loop.k account_count loop.ends c.loop-k-test.true)

pub returns : goal.returns
returns c = sym (c.loop-k.invariant ∙ fold_left_done _ _ account_count _ c.loop-k-test.false)
