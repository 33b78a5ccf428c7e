-- What is asked of each kind of action is asked of topactions and of the others. Assumes nothing.
use Prim.Native.Nat.{ℕ}
use mathlib.Core.Path.{◌≡◌, ap}
use mathlib.Core.Bool.{Bool, ◌&&◌}
use Rattle.rules.specs.Range.{up_from, all}
use Rattle.rules.specs.Kind.{top_kind, sub_kind, kinds}
use Rattle.rules.proofs.Laws.Tests.{and_true}

pub both_kinds : (f : ℕ → Bool) → all f kinds ≡ (f top_kind && f sub_kind)
unfolding kinds up_from all
both_kinds f = ap (λ b. f top_kind && b) (and_true (f sub_kind))
