-- The loop's invariant: the words so far are put. Assumes nothing.
use Prim.Native.Nat.{◌≤◌}
use lib.ListN.{length}
use Rattle.text.specs.Put.{Writes}
use Rattle.listing.specs.Report.{signed_from}
use Rattle.listing.proofs.tree.put_signeds.Given as goal

abbrev pub invariant-loop-word : goal.invariant-loop-word
invariant-loop-word l = (l.word-index ≤ length l.words) × Writes l.initial.text l.text (signed_from l.words 0 l.word-index)
