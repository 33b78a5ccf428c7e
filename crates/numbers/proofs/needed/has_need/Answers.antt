-- `has_need` meets its contract: its range is that of the actions. Assumes nothing.
use Rattle.std.proofs.Common.{rules, tests}
use Rattle.rules.proofs.Laws.RangeTests.{any_of_actions}
use Rattle.numbers.proofs.needed.has_need.Goals as goal

pub returns : goal.returns
returns c = any_of_actions _ _ c.any.ensures.ran c.highest.ensures (λ x b q called. search (rules, tests))
