-- `all_accounts_true` meets its contract: its range is that of the accounts. Assumes nothing.
use Rattle.std.proofs.Common.{rules, tests, sym, ◌∙◌}
use Rattle.rules.specs.Card.{accounts}
use Rattle.rules.proofs.Laws.RangeTests.{all_of_range}
use Rattle.soundness.proofs.AccountReads.{true_by_account}
use Rattle.soundness.proofs.told.all_accounts_true.Goals as goal

pub returns : goal.returns
unfolding accounts
returns c =
    all_of_range _ c.all.ensures.ran (λ k b q called. search (rules, tests))
    ∙ sym (true_by_account _ _ c.requires.store_or_live)
