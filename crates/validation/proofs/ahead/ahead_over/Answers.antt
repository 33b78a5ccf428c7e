-- `ahead_over` meets its contract: its range is that of the accounts. Assumes nothing.
use Rattle.std.proofs.Common.{rules, tests, sym, ◌∙◌}
use Rattle.rules.specs.Card.{accounts}
use Rattle.rules.proofs.Laws.RangeTests.{find_of_range}
use Rattle.validation.proofs.AheadSearch.{over_found}
use Rattle.validation.proofs.ahead.ahead_over.Goals as goal

pub returns : goal.returns
unfolding accounts
returns c =
    let found = find_of_range _ _ c.find.ensures.ran (λ k b q called. search (rules, tests)) in
    sym (over_found _ _ _ _ found c.in_ok-k.was)

pub returns-in_err-k : goal.returns-in_err-k
unfolding accounts
returns-in_err-k c =
    let found = find_of_range _ _ c.find.ensures.ran (λ k b q called. search (rules, tests)) in
    c.from_residual.ensures ∙ sym (over_found _ _ _ _ found c.in_err-k.was)
