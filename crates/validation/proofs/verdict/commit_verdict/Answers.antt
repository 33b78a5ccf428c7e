-- `commit_verdict` meets its contract: the table's rule decides which search is asked. Assumes nothing.
use mathlib.Core.Path.{sym, ◌∙◌}
use Rattle.rules.proofs.Clash.CommitAnswers.{backward_verdict, forward_verdict}
use Rattle.validation.proofs.verdict.commit_verdict.Goals as goal

pub returns-then-is_forward : goal.returns-then-is_forward
returns-then-is_forward c =
    c.first_ahead.ensures ∙ sym (forward_verdict _ _ (sym c.is_forward.ensures ∙ c.if-is_forward.true))

pub returns : goal.returns
returns c =
    c.clash_of.ensures ∙ sym (backward_verdict _ _ (sym c.is_forward.ensures ∙ c.if-is_forward.false))
