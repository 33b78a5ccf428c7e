-- The loop's invariant: the lines so far are put. Assumes nothing.
use Prim.Native.Nat.{◌≤◌}
use Rattle.rules.specs.Tree.{line_length}
use Rattle.text.specs.Put.{Writes}
use Rattle.listing.specs.Report.{line_at_place, lines_every}
use Rattle.listing.proofs.tree.put_action_lines.Given as goal

abbrev pub invariant-loop-line : goal.invariant-loop-line
invariant-loop-line l =
    (l.line-index ≤ l.lines)
    × Writes l.initial.text l.text (lines_every line_length (line_at_place l.words) 0 l.line-index)
