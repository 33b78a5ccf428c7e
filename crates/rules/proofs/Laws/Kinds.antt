-- What is asked of each kind of action, and who is queued at all. Assumes nothing.
use Prim.Native.Nat.{ℕ, ◌<◌}
use native.Mathlib.Omega.{arith}
use mathlib.Core.Path.{◌≡◌}
use mathlib.Core.Logic.{◌⊎◌, inl, inr, ⊎_elim, ◌≢◌}
use mathlib.Core.Bool.{Bool, true, false}
use mathlib.Core.List.{List}
use lib.Dec.{ltb, eqb}
use borrow.Author.Tests.{ltb-true, ltb-false}
use Rattle.rules.specs.Range.{all}
use Rattle.rules.specs.Kind.{kind_count, IsKind, top_kind, sub_kind, kinds, kind_under}
use Rattle.rules.specs.Queue.{is_queued, is_waiting}
use Rattle.rules.proofs.Laws.Tests.{test, cond_holds}
use Rattle.rules.proofs.Laws.Ranges.{all_at, all_of, not_any, not_any_at}

-- of two numbers that are not the same one is the lower
pub either_side : (x y : ℕ) → x ≢ y → (x < y) ⊎ (y < x)
either_side x y apart =
    ⊎_elim
    (λ p. inl (ltb-true x y p))
    (λ p.
    ⊎_elim
    (λ q. inr (ltb-true y x q)) (λ q. absurd (apart (omega (arith, ltb-false x y p, ltb-false y x q)))) (test (ltb y x)))
    (test (ltb x y))

pub kind_known : (p : ℕ) → IsKind (kind_under p)
unfolding kind_under
kind_known p = cond_holds IsKind (eqb p 0) {x = top_kind} {y = sub_kind} (λ _. omega arith) (λ _. omega arith)

pub all_kinds : (f : ℕ → Bool) → all f kinds ≡ true → (h : ℕ) → IsKind h → f h ≡ true
unfolding kinds
all_kinds f t h known = all_at f top_kind kind_count h t (omega arith)

pub kinds_all : (f : ℕ → Bool) → ((h : ℕ) → IsKind h → f h ≡ true) → all f kinds ≡ true
unfolding kinds
kinds_all f each = all_of f top_kind kind_count (λ h r. each h (omega arith))

-- who is queued nowhere stands in neither queue
pub unqueued_in : (w : List ℕ) (n : ℕ) → is_waiting w n ≡ false → (h : ℕ) → IsKind h → is_queued w h n ≡ false
unfolding is_waiting kinds
unqueued_in w n none h known = not_any_at (λ x. is_queued w x n) top_kind kind_count h none (omega arith)

pub unqueued_of : (w : List ℕ) (n : ℕ) → ((h : ℕ) → IsKind h → is_queued w h n ≡ false) → is_waiting w n ≡ false
unfolding is_waiting kinds
unqueued_of w n each = not_any (λ x. is_queued w x n) top_kind kind_count (λ h r. each h (omega arith))
