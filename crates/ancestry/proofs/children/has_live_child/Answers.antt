-- `has_live_child` meets its contract: its range is that of the actions. Assumes nothing.
use Rattle.std.proofs.Common.{rules, tests}
use Rattle.rules.specs.Table.{has_live_child}
use Rattle.rules.proofs.Laws.RangeTests.{any_of_actions}
use Rattle.ancestry.proofs.children.has_live_child.Goals as goal

pub returns : goal.returns
unfolding has_live_child
returns c = any_of_actions _ _ c.any.ensures.ran c.highest.ensures (λ m b q called. search (rules, tests))
