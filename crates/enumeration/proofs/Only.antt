-- Each of the lists is one of short events of which none is refused. Assumes nothing.
use Prim.Native.Nat.{ℕ, zero, suc}
use native.Mathlib.Omega.{arith}
use mathlib.Core.List.Memᴰ
use mathlib.Core.List.{List, Memᴰ}
use Rattle.rules.specs.Event.{Event}
use Rattle.rules.specs.Ledger.{Ledger}
use Rattle.enumeration.specs.Lists.{candidate_count, lists}
use Rattle.enumeration.proofs.Candidates.{candidate_short}
use Rattle.enumeration.proofs.Beginnings.{begins_with_candidate}
use Rattle.enumeration.proofs.Taken.{AreTaken, none_taken, more_taken}

pub listed_taken : (k p : ℕ) (s : Ledger) {es : List Event} → Memᴰ es (lists k p s) → AreTaken k p s es
unfolding lists
listed_taken zero p s m = rw (Memᴰ.eq_of_singleton m) (none_taken p s)
listed_taken (suc k) p s m =
    let (c, within, begins) = begins_with_candidate (lists k (suc p)) s p candidate_count 0 m in
    rw begins.whole
    (more_taken (candidate_short p c (omega arith)) begins.taken (listed_taken k (suc p) _ begins.follows))
