-- `have_no_newest` meets its contract: its range is that of the actions. Assumes nothing.
use Rattle.std.proofs.Common.{rules, tests}
use Rattle.rules.proofs.Laws.RangeTests.{all_of_actions}
use Rattle.soundness.proofs.newest.have_no_newest.Goals as goal

pub returns : goal.returns
returns c = all_of_actions _ _ c.all.ensures.ran c.highest.ensures (λ n b q called. search (rules, tests))
