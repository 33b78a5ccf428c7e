-- A number in hexadecimal: with a width of 16, `io::hex` writes the definition's digits, and there are 16. Assumes nothing.
use Prim.Native.Nat.{ℕ, zero, suc, ◌-◌, ◌/◌, ◌^◌, ◌≤◌, ◌<◌}
use native.Mathlib.Nat.{pow-le-pow_right}
use native.Mathlib.Decide.{dec_le}
use native.Mathlib.Omega.{arith}
use mathlib.Core.Path.{◌≡◌, refl}
use lib.ListN.{length, length-append}
use Rattle.io.specs.Digits.{last_digits, IsDigitCount}
use Rattle.text.specs.Text.{hex_base, hex_digits, hexadecimal}

-- a number that fits 64 bits has no digit beyond the sixteenth
no_more_digits : (r n : ℕ) → n < 2 ^ 64 → IsDigitCount hex_base hex_digits n r → r ≡ hex_digits
no_more_digits r n h f = go (dec_le r hex_digits)
  where
    go : Dec (r ≤ hex_digits) → r ≡ hex_digits
    go (yes few) = omega (arith, f.0)
    go (no many) =
        let above : hex_digits ≤ r - 1 = omega arith in
        let large : hex_base ^ hex_digits ≤ hex_base ^ (r - 1) = pow-le-pow_right (omega arith) above in
        absurd (omega (arith, f.2 (omega arith)))

pub digits_are_hexadecimal : (r n : ℕ) → n < 2 ^ 64 → IsDigitCount hex_base hex_digits n r → last_digits hex_base r n ≡ hexadecimal n
unfolding hexadecimal
digits_are_hexadecimal r n h f = rw (no_more_digits r n h f)

digits_length : (b k n : ℕ) → length (last_digits b k n) ≡ k
digits_length b zero n = refl
digits_length b (suc k) n = simp length-append (omega (arith, digits_length b k (n / b)))

pub hexadecimal_length : (n : ℕ) → length (hexadecimal n) ≡ hex_digits
unfolding hexadecimal
hexadecimal_length n = digits_length hex_base hex_digits n
