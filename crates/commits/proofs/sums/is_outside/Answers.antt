-- `is_outside` meets its contract: its range is that of the charge accounts. Assumes nothing.
use Rattle.std.proofs.Common.{rules, tests}
use Rattle.rules.specs.Card.{charge_accounts}
use Rattle.rules.specs.Cause.{is_commit_outside}
use Rattle.rules.proofs.Laws.RangeTests.{any_of_range}
use Rattle.commits.proofs.sums.is_outside.Goals as goal

pub returns : goal.returns
unfolding is_commit_outside charge_accounts
returns c = any_of_range _ c.any.ensures.ran (λ k b q called. search (rules, tests))
