-- The loop's invariant: `starts` is how many of the answers so far are starts, and so it is at most their number. Assumes
-- nothing.
use Prim.Native.Nat.{◌≤◌}
use mathlib.Core.Path.{◌≡◌}
use Rattle.listing.specs.Buffer.{starts_from}
use Rattle.listing.proofs.lines.count_starts.Given as goal

abbrev pub invariant-loop-answer : goal.invariant-loop-answer
invariant-loop-answer l =
    (l.answer-index ≤ l.count) × (l.starts ≤ l.answer-index) × (l.starts ≡ starts_from l.answers 0 l.answer-index)
