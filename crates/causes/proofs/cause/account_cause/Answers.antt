-- `account_cause` meets its contract: each exit gives the first cause that applies. Assumes nothing.
use native.Mathlib.Omega.{arith}
use mathlib.Core.Path.{sym, ◌∙◌}
use Rattle.causes.proofs.Grouped.{card_refused, card_passed}
use Rattle.causes.proofs.cause.account_cause.Goals as goal

pub returns-in_err-card_cause : goal.returns-in_err-card_cause
returns-in_err-card_cause c =
    card_refused _ _ c.from_residual.result _ (omega arith) c.from_residual.ensures.1
    (rw c.requires.code at c.in_err-card_cause.ensures)

pub returns : goal.returns
returns c = c.busy_cause.ensures ∙ sym (card_passed _ _ (omega arith) (rw c.requires.code at c.in_ok-card_cause.ensures))
