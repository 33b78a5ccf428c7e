-- `is_known_clash` meets its contract: its range is that of the accounts. Assumes nothing.
use Rattle.std.proofs.Common.{rules, tests, sym}
use Rattle.rules.specs.Card.{accounts}
use Rattle.rules.specs.Stale.{is_known_clash}
use Rattle.rules.proofs.Laws.RangeTests.{any_of_range}
use Rattle.validation.proofs.known.is_known_clash.Goals as goal

pub returns : goal.returns
unfolding is_known_clash accounts
returns c = rw (sym c.parent-p.ensures) (any_of_range _ c.any.ensures.ran (λ k b q called. search (rules, tests)))
