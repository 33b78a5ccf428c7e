-- `is_true_above` meets its contract: who is marked passes, and any other parent is tested. Assumes nothing.
use Rattle.soundness.specs.Passed.{is_true_above}
use mathlib.Core.Path.{◌∙◌, sym}
use Rattle.soundness.proofs.parents.is_true_above.Goals as goal

pub returns-then-passed-p : goal.returns-then-passed-p
unfolding is_true_above
returns-then-passed-p c =
    let marked = rw c.parent-p.ensures at c.if-passed-p.true in
    rw (c.if-passed-p.true, sym c.is_live.ensures ∙ c.if-not-is_live.false, c.requires.are_passed _ marked)

pub returns-else-passed-p : goal.returns-else-passed-p
unfolding is_true_above
returns-else-passed-p c =
    rw (sym c.is_live.ensures ∙ c.if-not-is_live.false, ← c.parent-p.ensures) c.are_newest_true.ensures
