-- `commit_cause` meets its contract: the causes of a busy action come first, then 18 where the queue of its kind isn't empty, and
-- then 19. Assumes nothing.
use native.Mathlib.Omega.{arith}
use mathlib.Core.Path.{sym, ◌∙◌}
use borrow.Author.Tests.{eq-eqb}
use Rattle.causes.specs.Groups.{commit_causes}
use Rattle.causes.proofs.Grouped.{busy_refused, busy_passed}
use Rattle.causes.proofs.busy.commit_cause.Goals as goal

pub returns-in_err-busy_cause : goal.returns-in_err-busy_cause
unfolding commit_causes
returns-in_err-busy_cause c = busy_refused _ _ _ c.from_residual.result _ c.from_residual.ensures.1 c.in_err-busy_cause.ensures

pub returns : goal.returns
unfolding commit_causes
returns c =
    let passed = busy_passed _ _ _ c.in_ok-busy_cause.ensures in
    sym (passed ∙ rw (
      ← c.kind_of.ensures,
      ← c.queue_length.ensures,
      eq-eqb c.queue_length.result 0 (omega arith),
    ) (sym c.time_cause.ensures))
