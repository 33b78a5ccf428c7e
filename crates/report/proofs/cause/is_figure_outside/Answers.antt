-- `is_figure_outside` meets its contract: its range is that of the actions. Assumes nothing.
use Rattle.std.proofs.Common.{rules, tests}
use Rattle.rules.specs.Tree.{is_figure_outside}
use Rattle.rules.proofs.Laws.RangeTests.{any_of_actions}
use Rattle.report.proofs.cause.is_figure_outside.Goals as goal

pub returns : goal.returns
unfolding is_figure_outside
returns c = any_of_actions _ _ c.any.ensures.ran c.highest.ensures (λ n b q called. search (rules, tests))
