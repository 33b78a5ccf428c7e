-- `all_fit` meets its contract: its range is that of the charge accounts. Assumes nothing.
use Rattle.std.proofs.Common.{rules, tests, ap, not}
use Rattle.rules.specs.Card.{charge_accounts}
use Rattle.rules.proofs.Laws.RangeTests.{any_of_range}
use Rattle.report.proofs.cause.all_fit.Goals as goal

pub returns : goal.returns
unfolding charge_accounts
returns c = ap not (any_of_range _ c.any.ensures.ran (λ k b q called. search (rules, tests)))
