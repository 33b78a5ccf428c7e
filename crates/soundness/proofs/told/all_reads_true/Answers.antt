-- `all_reads_true` meets its contract: its range is that of the actions. Assumes nothing.
use Rattle.std.proofs.Common.{rules, tests}
use Rattle.rules.proofs.Laws.RangeTests.{all_of_actions}
use Rattle.soundness.proofs.told.all_reads_true.Goals as goal

pub returns : goal.returns
returns c = all_of_actions _ _ c.all.ensures.ran c.highest.ensures (λ m b q called. search (rules, tests))
