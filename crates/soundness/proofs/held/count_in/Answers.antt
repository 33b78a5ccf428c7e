-- `count_in` meets its contract: the end times are raised where the test holds, and stay otherwise. Assumes nothing.
use mathlib.Core.Path.{sym, ◌∙◌}
use Rattle.soundness.specs.Held.{counted_in}
use Rattle.soundness.proofs.held.count_in.Goals as goal

pub returns-then-is_committed_child : goal.returns-then-is_committed_child
unfolding counted_in
returns-then-is_committed_child c =
    rw (sym c.is_committed_child.ensures ∙ c.if-is_committed_child.true) c.raise_ends.ensures

pub returns-else-is_committed_child : goal.returns-else-is_committed_child
unfolding counted_in
returns-else-is_committed_child c = rw (sym c.is_committed_child.ensures ∙ c.if-is_committed_child.false)
