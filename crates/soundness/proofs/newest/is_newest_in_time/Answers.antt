-- `is_newest_in_time` meets its contract: its range is that of the accounts. Assumes nothing.
use Rattle.std.proofs.Common.{rules, tests}
use Rattle.rules.specs.Card.{accounts}
use Rattle.rules.specs.Sound.{is_newest_in_time}
use Rattle.rules.proofs.Laws.RangeTests.{all_of_range}
use Rattle.soundness.proofs.newest.is_newest_in_time.Goals as goal

pub returns : goal.returns
unfolding is_newest_in_time accounts
returns c = all_of_range _ c.all.ensures.ran (λ k b q called. search (rules, tests))
