-- The loop's invariant: the lines of the first `i` answers are put. Assumes nothing.
use Prim.Native.Nat.{◌≤◌}
use Rattle.text.specs.Put.{Writes}
use Rattle.listing.specs.Buffer.{lines_of}
use Rattle.listing.proofs.lines.put_lines.Given as goal

abbrev pub invariant-loop-i : goal.invariant-loop-i
invariant-loop-i l = (l.i ≤ l.count) × Writes l.initial.text l.text (lines_of l.answers 1 0 l.i)
