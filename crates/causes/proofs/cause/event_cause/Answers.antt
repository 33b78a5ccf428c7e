-- `event_cause` meets its contract: a code that is none is refused first. Assumes nothing.
use Rattle.rules.specs.Cause.{early_causes}
use mathlib.Core.Path.{◌∙◌}
use Rattle.causes.proofs.Grouped.{passed_up}
use Rattle.causes.proofs.cause.event_cause.Goals as goal

pub returns-in_err-code-clause-cause : goal.returns-in_err-code-clause-cause
unfolding early_causes
returns-in_err-code-clause-cause c =
    rw (c.in_err-code.ensures.1)
    (passed_up c.from_residual.result _ c.from_residual.ensures.1 ∙ rw c.in_err-code.ensures.0)
