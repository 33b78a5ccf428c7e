-- An integer as what it is above 0 and what it is below: with these laws a fact about sums of integers is one of linear
-- arithmetic. Assumes nothing.
use Prim.Native.Nat.{ℕ, suc, ◌+◌, min}
use native.Mathlib.Omega.{arith}
use mathlib.Core.Path.{◌≡◌, ap}
use lib.Dec.{ltb}
use lib.IntN.{ℤ, pos, negsuc, sub_ℕ, ◌+ℤ◌}
use borrow.Author.Tests.{ltb-true, ltb-false}
use Rattle.rules.proofs.Laws.Tests.{cond_holds}

-- z is up z - dn z
unfoldable pub up : ℤ → ℕ
up (pos n) = n
up (negsuc n) = 0

unfoldable pub dn : ℤ → ℕ
dn (pos n) = 0
dn (negsuc n) = suc n

-- one of the two is 0
pub up_or_dn : (z : ℤ) → min (up z) (dn z) ≡ 0
unfolding up dn
up_or_dn (pos n) = omega arith
up_or_dn (negsuc n) = omega arith

-- two integers with the same difference are one
pub same_integer : (y z : ℤ) → up y + dn z ≡ up z + dn y → y ≡ z
unfolding up dn
same_integer (pos m) (pos n) e = ap pos (omega arith)
same_integer (pos m) (negsuc n) e = absurd (omega arith)
same_integer (negsuc m) (pos n) e = absurd (omega arith)
same_integer (negsuc m) (negsuc n) e = ap negsuc (omega arith)

-- a difference of two natural numbers
pub difference_parts : (a b : ℕ) → up (sub_ℕ a b) + b ≡ dn (sub_ℕ a b) + a
unfolding up dn
difference_parts a b =
    cond_holds (λ z. up z + b ≡ dn z + a) (ltb a b) (λ h. let below = ltb-true a b h in omega arith)
    (λ h. let above = ltb-false a b h in omega arith)

-- a sum of two integers
pub sum_parts : (a b : ℤ) → up (a +ℤ b) + (dn a + dn b) ≡ dn (a +ℤ b) + (up a + up b)
unfolding up dn
sum_parts (pos m) (pos n) = omega arith
sum_parts (pos m) (negsuc n) = omega (arith, difference_parts m (suc n))
sum_parts (negsuc m) (pos n) = omega (arith, difference_parts n (suc m))
sum_parts (negsuc m) (negsuc n) = omega arith
