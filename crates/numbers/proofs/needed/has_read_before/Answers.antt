-- `has_read_before` meets its contract: its range is that of the accounts. Assumes nothing.
use Rattle.std.proofs.Common.{rules, tests}
use Rattle.rules.specs.Card.{accounts}
use Rattle.rules.specs.Free.{has_read_before}
use Rattle.rules.proofs.Laws.RangeTests.{any_of_range}
use Rattle.numbers.proofs.needed.has_read_before.Goals as goal

pub returns : goal.returns
unfolding has_read_before accounts
returns c = any_of_range _ c.any.ensures.ran (λ k b q called. search (rules, tests))
