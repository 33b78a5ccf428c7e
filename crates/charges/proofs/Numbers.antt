-- No NaN arises from adding up charges: what a charge adds is finite, and a finite value added to one that is no NaN gives none.
-- Assumes nothing.
use Rattle.std.proofs.Common.{◌≡◌, ℕ, zero, suc, ◌+◌, ◌-◌, ◌*◌, ◌^◌, ◌<◌, ◌≤◌, Bool, true, false, cond, ◌&&◌, T, ltb, ℤ, pos, negsuc, refl, mul-le-mul_right, arith, lit<, leb-true}
use mathlib.Core.Bool.{beq}
use lib.Ieee.{Float, nan, inf, fin, Format, binary64, prec, low, unlike, up, down, odd, units, round, sum, add, div, le, lt, eq, of_int, is_nan}
use lib.Ieee.Fits.{round_is, down_pos}
use lib.Ieee.Exact.{HasValue}
use lib.Ieee.Back.{round_whole}
use lib.Ieee.Order.{round_mono}
use lib.Ieee.Scale.{overflow, finite}
use Rattle.rules.specs.Amount.{most_added, is_addable}
use Rattle.rules.proofs.Laws.Tests.{cond_holds}
use Rattle.charges.specs.Running.{hundred}

-- ---- a rounded fraction is never a NaN

odd_number : (d : ℕ) (s : Bool) (q k l : ℕ) → is_nan (odd d s q k l) ≡ false
unfolding odd is_nan
odd_number d s zero k l = refl
odd_number d s (suc q) k l = refl

units_number : (f : Format) (s : Bool) (q k : ℕ) → is_nan (units f s q k) ≡ false
unfolding units is_nan
units_number f s q k =
    cond_holds (λ x. is_nan x ≡ false) (ltb (q * 2 ^ k) (overflow f))
    (λ _. odd_number (suc (prec f)) s q k (low f))
    (λ _. refl)

round_number : (f : Format) (s : Bool) (a b : ℕ) → is_nan (round f s a b) ≡ false
round_number f s a b = rw (round_is f s a b) (units_number f s _ _)

-- ---- and it is finite, with either sign, where one that is no smaller is

odd_finite : (d : ℕ) (s : Bool) (q k l : ℕ) → T (finite (odd d s q k l))
unfolding odd
odd_finite d s zero k l = tt
odd_finite d s (suc q) k l = tt

above_finite : (y : Float) → T (finite y) → T (le (inf false) y) → ⊥
unfolding le lt eq
above_finite nan f h = f
above_finite (inf s) f h = f
above_finite (fin s m e) f h = h

units_finite :
    (f : Format) (s : Bool) (q k : ℕ) (y : Float) → T (finite y) → T (le (units f false q k) y) → T (finite (units f s q k))
unfolding units
units_finite f s q k y bound = go (ltb (q * 2 ^ k) (overflow f))
  where
    go : (b : Bool) → T (le (cond b (odd (suc (prec f)) false q k (low f)) (inf false)) y)
        → T (finite (cond b (odd (suc (prec f)) s q k (low f)) (inf s)))
    go true h = odd_finite (suc (prec f)) s q k (low f)
    go false h = absurd (above_finite y bound h)

round_finite :
    (f : Format) (s : Bool) (a b c d : ℕ) → 0 < b → 0 < d → a * d ≤ c * b → T (finite (round f false c d))
    → T (finite (round f s a b))
round_finite f s a b c d B D less bound =
    rw (round_is f s a b)
    (units_finite f s _ _ (round f false c d) bound (rw (round_is f false a b) at (round_mono f a b c d B D less)))

-- ---- what a charge adds: a hundredth of 1,000,000 at most

-- 100 is 25 * 2^2
pub hundred_is : hundred ≡ fin false 25 (pos 2)
unfolding hundred of_int
hundred_is = refl

-- n as a float is n, so that its quotient is that of n
quotient_finite : (s : Bool) (n : ℕ) → n ≤ most_added → T (finite (div binary64 (round binary64 s n 1) hundred))
unfolding div
quotient_finite s n few = go (round binary64 s n 1) (round_whole binary64 s n (omega arith))
  where
    go : (x : Float) → HasValue x s n 1 → T (finite (div binary64 x hundred))
    go nan value = absurd value
    go (inf t) value = absurd value
    go (fin t m e) value =
        rw hundred_is
        (round_finite binary64 (unlike t false) (m * up e * down (pos 2)) (25 * up (pos 2) * down e) 10000 1
        (omega (arith, down_pos e))
        (lit< tt)
        (omega (arith, value.1, mul-le-mul_right (down e) few))
        (unfold round in tt))

pub added_finite : (c : ℤ) → is_addable c ≡ true → T (finite (div binary64 (of_int binary64 c) hundred))
unfolding of_int is_addable
added_finite (pos n) h = quotient_finite false n (leb-true n most_added h)
added_finite (negsuc n) h = quotient_finite true (suc n) (leb-true (suc n) most_added h)

-- ---- the sum

fractions_number : (f : Format) (s : Bool) (a : ℕ) (t : Bool) (b c : ℕ) → is_nan (sum f s a t b c) ≡ false
unfolding sum
fractions_number f s a t b c =
    cond_holds (λ x. is_nan x ≡ false) (beq s t)
    (λ _. round_number f s (a + b) c)
    (λ _.
    cond_holds (λ x. is_nan x ≡ false) (ltb a b)
    (λ _. round_number f t (b - a) c)
    (λ _. round_number f (s && ltb b a) (a - b) c))

pub sum_number : (x y : Float) → is_nan x ≡ false → T (finite y) → is_nan (add binary64 x y) ≡ false
unfolding add is_nan
sum_number nan y h f = h
sum_number (inf s) nan h f = absurd f
sum_number (inf s) (inf t) h f = absurd f
sum_number (inf s) (fin t n d) h f = refl
sum_number (fin s m e) nan h f = absurd f
sum_number (fin s m e) (inf t) h f = absurd f
sum_number (fin s m e) (fin t n d) h f =
    fractions_number binary64 s (m * up e * down d) t (n * up d * down e) (down e * down d)
