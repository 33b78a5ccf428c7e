-- `pass_parent` meets its contract: the parent is marked where the action is live. Assumes nothing.
use mathlib.Core.Path.{sym, ◌∙◌}
use Rattle.soundness.specs.Passed.{with_passed}
use Rattle.soundness.proofs.parents.pass_parent.Goals as goal

pub returns-then-is_live : goal.returns-then-is_live
unfolding with_passed
returns-then-is_live c = rw (sym c.is_live.ensures ∙ c.if-is_live.true, c.parent-p.ensures)

pub returns-else-is_live : goal.returns-else-is_live
unfolding with_passed
returns-else-is_live c = rw (sym c.is_live.ensures ∙ c.if-is_live.false)
