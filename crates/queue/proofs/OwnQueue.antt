-- The queues of a sound table, and that of an action's kind, as the functions on a queue ask for them. Assumes nothing.
use Prim.Native.Nat.{ℕ}
use mathlib.Core.Path.{◌≡◌}
use mathlib.Core.List.{List}
use Rattle.rules.specs.Kind.{IsKind}
use Rattle.rules.specs.Table.{parent_of, kind_of}
use Rattle.rules.specs.Sound.{Sound}
use Rattle.rules.proofs.Laws.Kinds.{kind_known}
use Rattle.queue.specs.Line.{HasLine, StandsOnce, AreKnown}

-- a result that is an action's kind is a kind
pub own_kind : (w : List ℕ) (n : ℕ) {h : ℕ} → h ≡ kind_of w n → IsKind h
own_kind w n e = rw e (kind_known (parent_of w n))

module _ {w : List ℕ} (s : Sound w) (h : ℕ) (known : IsKind h) where
  pub sound_line : HasLine w h
  sound_line = record { long = s.long; few = (s.lines h known).short; known = known }

  pub stands_once : StandsOnce w h
  stands_once = (s.lines h known).once

  pub are_known : AreKnown w h
  are_known m waits = ((s.lines h known).waits m waits).begun
