-- A number in decimal: the digits that `io::decimal` writes are the definition's, and how many there can be; and the same of a
-- sum with its sign. Assumes nothing.
use Prim.Native.Nat.{ℕ, zero, suc, ◌+◌, ◌-◌, ◌/◌, ◌%◌, ◌^◌, ◌≤◌, ◌<◌}
use native.Mathlib.Nat.{one-le-pow, pow-suc, pow-le-pow_right}
use native.Mathlib.Decide.{dec_le}
use native.Mathlib.Omega.{arith}
use Rattle.std.proofs.Common.{refl, true, false, true≢false, to_z-of_z, w64, to_z, of_z, ltb-true}
use mathlib.Core.Path.{◌≡◌, ◌∙◌}
use lib.Signed.{mag, lt_z}
use mathlib.Core.List.{List, ◌∷◌}
use lib.Dec.{ltb}
use lib.ListN.{length, length-append}
use lib.IntN.{ℤ, pos, negsuc, nat_abs}
use borrow.Author.Tests.{ltb-false, lt-ltb, le-ltb}
use Rattle.rules.specs.Amount.{amount_of}
use Rattle.rules.proofs.Laws.Tests.{cond_holds}
use Rattle.rules.proofs.Laws.Integers.{dn}
use Rattle.rules.proofs.Laws.Amounts.{amount_of_any, amount_holds}
use Rattle.io.specs.Digits.{last_digits, IsDigitCount}
use Rattle.text.specs.Text.{minus, decimal_within, decimal, signed, most_digits}

-- the fewest digits that hold a number are the definition's
fewest_digits : (places r n : ℕ) → r ≤ places → IsDigitCount 10 1 n r → last_digits 10 r n ≡ decimal_within places n
unfolding decimal_within
fewest_digits places zero n h f = absurd (omega arith)
fewest_digits zero (suc r) n h f = absurd (omega arith)
fewest_digits (suc places) (suc zero) n h f =
    let small : n < 10 = f.1 in
    let last : n % 10 ≡ n = omega arith in
    rw (last, lt-ltb n 10 small)
fewest_digits (suc places) (suc (suc r)) n h f =
    let one_less : suc (suc r) - 1 ≡ suc r = omega arith in
    let at_least : 10 ^ suc r ≤ n = rw one_less at (f.2 (omega arith)) in
    let fewer : suc r - 1 ≡ r = omega arith in
    let last : n % 10 < 10 = omega arith in
    let large : 10 ≤ n = omega (arith, pow-suc 10 r, one-le-pow r 10 (omega arith)) in
    let higher : IsDigitCount 10 1 (n / 10) (suc r) = (
      omega arith,
      omega (arith, pow-suc 10 (suc r), f.1),
      λ _. rw fewer (omega (arith, pow-suc 10 r)),
    )
    in
    rw (fewest_digits places (suc r) (n / 10) (omega arith) higher, lt-ltb (n % 10) 10 last, le-ltb n 10 large)

-- a number that fits 64 bits has at most 20 digits
few_digits : (r n : ℕ) → n < 2 ^ 64 → IsDigitCount 10 1 n r → r ≤ most_digits
few_digits r n h f = go (dec_le r most_digits)
  where
    go : Dec (r ≤ most_digits) → r ≤ most_digits
    go (yes few) = few
    go (no many) =
        let above : most_digits ≤ r - 1 = omega arith in
        let large : 10 ^ most_digits ≤ 10 ^ (r - 1) = pow-le-pow_right (omega arith) above in
        absurd (omega (arith, f.2 (omega arith)))

-- what `io::decimal` writes
pub digits_are_decimal : (r n : ℕ) → n < 2 ^ 64 → IsDigitCount 10 1 n r → last_digits 10 r n ≡ decimal n
digits_are_decimal r n h f = fewest_digits most_digits r n (few_digits r n h f) f

-- no more digits than places
decimal_within_length : (places n : ℕ) → length (decimal_within places n) ≤ places
unfolding decimal_within
decimal_within_length zero n = omega arith
decimal_within_length (suc places) n =
    cond_holds (λ (text : List ℕ). length text ≤ suc places) (ltb n 10)
    (λ _. omega arith)
    (λ _. simp length-append (omega (arith, decimal_within_length places (n / 10))))

-- a number below a power of ten has no more digits than the exponent says
decimal_within_below : (k places n : ℕ) → n < 10 ^ suc k → length (decimal_within places n) ≤ suc k
unfolding decimal_within
decimal_within_below k zero n h = omega arith
decimal_within_below zero (suc places) n h =
    cond_holds (λ (text : List ℕ). length text ≤ 1) (ltb n 10)
    (λ _. omega arith)
    (λ large. absurd (omega (arith, ltb-false n 10 large)))
decimal_within_below (suc k) (suc places) n h =
    cond_holds (λ (text : List ℕ). length text ≤ suc (suc k)) (ltb n 10)
    (λ _. omega arith)
    (λ _.
    simp length-append
    (omega (arith, decimal_within_below k places (n / 10) (omega (arith, pow-suc 10 (suc k))))))

pub decimal_bound : (n : ℕ) → length (decimal n) ≤ most_digits
decimal_bound n = decimal_within_length most_digits n

pub decimal_below : (k n : ℕ) → n < 10 ^ suc k → length (decimal n) ≤ suc k
decimal_below k n h = decimal_within_below k most_digits n h

-- ---- sums

-- a number below 0 has a minus before its digits
digits_below_zero : (z : ℤ) → lt_z z (pos 0) ≡ true → signed z ≡ minus ∷ decimal (nat_abs z)
unfolding signed
digits_below_zero (pos n) below = absurd (omega (arith, ltb-true n 0 below))
digits_below_zero (negsuc n) below = refl

-- and any other its digits alone
digits_from_zero : (z : ℤ) → lt_z z (pos 0) ≡ false → signed z ≡ decimal (nat_abs z)
unfolding signed
digits_from_zero (pos n) from = refl
digits_from_zero (negsuc n) from = absurd (true≢false from)

-- the number that a word is, as it lies in 64 signed bits
module _ (word : ℕ) {number : ℤ} (fits : mag number < 2 ^ 63) (is : number ≡ to_z w64 word) where
  abbrev held : ℤ
  held = to_z w64 (of_z w64 number)

  is_held : held ≡ amount_of word
  unfolding amount_of
  is_held = to_z-of_z {w = w64} (record { sfits = fits }) ∙ is

  pub signed_below_zero : lt_z held (pos 0) ≡ true → signed (amount_of word) ≡ minus ∷ decimal (nat_abs held)
  signed_below_zero below = rw (← is_held) (digits_below_zero held below)

  pub signed_from_zero : lt_z held (pos 0) ≡ false → signed (amount_of word) ≡ decimal (nat_abs held)
  signed_from_zero from = rw (← is_held) (digits_from_zero held from)

-- a sign and 19 digits at most
signed_length : (z : ℤ) → dn z ≤ 2 ^ 63 → length (signed z) ≤ most_digits
unfolding signed dn
signed_length (pos n) h = decimal_bound n
signed_length (negsuc n) h = omega (arith, decimal_within_below 18 most_digits (suc n) (omega arith))

pub signed_bound : (x : ℕ) → length (signed (amount_of x)) ≤ most_digits
signed_bound x = signed_length (amount_of x) ((amount_holds (amount_of x)).0 (amount_of_any x)).1

-- a sign and the digits of the number without it
pub signed_below : (k : ℕ) (z : ℤ) → nat_abs z < 10 ^ suc k → length (signed z) ≤ suc k + 1
unfolding signed
signed_below k (pos n) h = omega (arith, decimal_below k n h)
signed_below k (negsuc n) h = omega (arith, decimal_below k (suc n) h)
