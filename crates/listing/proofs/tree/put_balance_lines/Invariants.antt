-- The loop's invariant: the block's lines so far are put. Assumes nothing.
use Prim.Native.Nat.{◌≤◌}
use Rattle.rules.specs.Card.{charge_count}
use Rattle.rules.specs.Tree.{balance_length, block_place}
use Rattle.text.specs.Put.{Writes}
use Rattle.listing.specs.Report.{balance_at_place, lines_every}
use Rattle.listing.proofs.tree.put_balance_lines.Given as goal

abbrev pub invariant-loop-line : goal.invariant-loop-line
invariant-loop-line l =
    (l.line-index ≤ charge_count)
    × Writes l.initial.text l.text (lines_every balance_length (balance_at_place l.words) block_place l.line-index)
