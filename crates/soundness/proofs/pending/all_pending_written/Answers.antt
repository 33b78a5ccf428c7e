-- `all_pending_written` meets its contract: its range is that of the charge accounts. Assumes nothing.
use Rattle.std.proofs.Common.{rules, tests}
use Rattle.rules.specs.Card.{charge_accounts}
use Rattle.rules.specs.Sound.{has_pending_written}
use Rattle.rules.proofs.Laws.RangeTests.{all_of_range}
use Rattle.soundness.proofs.pending.all_pending_written.Goals as goal

pub returns : goal.returns
unfolding has_pending_written charge_accounts
returns c = all_of_range _ c.all.ensures.ran (λ k b q called. search (rules, tests))
