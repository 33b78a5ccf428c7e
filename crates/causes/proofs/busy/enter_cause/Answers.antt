-- `enter_cause` meets its contract: the causes of a busy action come first, and then 19. Assumes nothing.
use Rattle.causes.specs.Groups.{enter_causes}
use Rattle.causes.proofs.Grouped.{busy_refused}
use Rattle.causes.proofs.busy.enter_cause.Goals as goal

pub returns-in_err-busy_cause : goal.returns-in_err-busy_cause
unfolding enter_causes
returns-in_err-busy_cause c = busy_refused _ _ _ c.from_residual.result _ c.from_residual.ensures.1 c.in_err-busy_cause.ensures
