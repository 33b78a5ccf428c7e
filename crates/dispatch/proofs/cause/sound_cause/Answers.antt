-- `sound_cause` gives an early cause where one applies, and else asks of the sums. Assumes nothing.
use mathlib.Core.Path.{sym, ap, ◌∙◌}
use mathlib.Core.Bool.{cond}
use Rattle.rules.specs.Cause.{sum_cause}
use Rattle.rules.proofs.Laws.Refusals.{never_none}
use Rattle.causes.proofs.Grouped.{passed_up, later_asked, later_summed}
use Rattle.dispatch.proofs.cause.sound_cause.Goals as goal

pub returns-in_err-code : goal.returns-in_err-code
returns-in_err-code c =
    passed_up c.from_residual.result _ c.from_residual.ensures.1
    ∙ sym (later_asked _ _ _ c.in_err-code.ensures.cause (never_none _))

-- where no early cause applies, what was asked of the sums decides
pub returns-then-is_event_outside : goal.returns-then-is_event_outside
returns-then-is_event_outside c =
    sym
    (later_summed _ _ _ (sym c.in_ok-code.ensures.cause)
    ∙ ap (λ b. cond b sum_cause 0) (sym c.is_event_outside.ensures ∙ c.if-is_event_outside.true))

pub returns : goal.returns
returns c =
    sym
    (later_summed _ _ _ (sym c.in_ok-code.ensures.cause)
    ∙ ap (λ b. cond b sum_cause 0) (sym c.is_event_outside.ensures ∙ c.if-is_event_outside.false))
