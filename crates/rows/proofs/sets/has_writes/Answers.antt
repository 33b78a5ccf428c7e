-- `has_writes` meets its contract: its range is that of the accounts. Assumes nothing.
use Rattle.std.proofs.Common.{rules, tests}
use Rattle.rules.specs.Card.{accounts}
use Rattle.rules.specs.Table.{has_writes}
use Rattle.rules.proofs.Laws.RangeTests.{any_of_range}
use Rattle.rows.proofs.sets.has_writes.Goals as goal

pub returns : goal.returns
unfolding has_writes accounts
returns c = any_of_range _ c.any.ensures.ran (λ k b q called. search (rules, tests))
