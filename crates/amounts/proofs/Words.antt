-- Words among bytes: the library reads and writes them as the rules do. Assumes nothing.
use Prim.Native.Nat.{ℕ, zero, suc, ◌+◌, ◌*◌, ◌/◌, ◌%◌, ◌^◌}
use native.Mathlib.Omega.{arith}
use native.Mathlib.Nat.{pow-suc, div-div-eq-div-mul}
use mathlib.Core.Path.{◌≡◌, refl, ap, ◌∙◌}
use mathlib.Core.List.{List, [], ◌∷◌}
use lib.ListN.{length, drop, get_or, drop_of_length-le}
use Rattle.std.specs.Int.{w64, from_le_bytes, to_le_bytes, byte_at}
use Rattle.std.specs.Int as library
use Rattle.rules.specs.Amount.{byte_values, low_first, bytes_low_first, amount_length}

byte_first : (bytes : List ℕ) (i : ℕ) → low_first (drop i bytes) ≡ get_or bytes i 0 + byte_values * low_first (drop (suc i) bytes)
unfolding low_first
byte_first [] zero = refl
byte_first [] (suc i) = refl
byte_first (byte ∷ bytes) zero = refl
byte_first (byte ∷ bytes) (suc i) = byte_first bytes i

pub word_read : (bytes : List ℕ) → length bytes ≡ amount_length → from_le_bytes w64 bytes ≡ low_first bytes
unfolding low_first
word_read bytes whole =
    let none : low_first (drop amount_length bytes) ≡ 0 = ap low_first (drop_of_length-le bytes {i = amount_length} (omega arith)) in
    omega (
      arith,
      none,
      byte_first bytes 0,
      byte_first bytes 1,
      byte_first bytes 2,
      byte_first bytes 3,
      byte_first bytes 4,
      byte_first bytes 5,
      byte_first bytes 6,
      byte_first bytes 7,
    )

byte_left : (i x : ℕ) → byte_at i x ≡ x / byte_values ^ i % byte_values
byte_left zero x = omega arith
byte_left (suc i) x = refl

bytes_left : (n i x : ℕ) → library.bytes_low_first i n x ≡ bytes_low_first n (x / byte_values ^ i)
unfolding bytes_low_first
bytes_left zero i x = refl
bytes_left (suc n) i x =
    rw (byte_left i x, bytes_left n (suc i) x, div-div-eq-div-mul x (byte_values ^ i) byte_values, pow-suc byte_values i)

pub word_written : (x : ℕ) → to_le_bytes w64 x ≡ bytes_low_first amount_length x
word_written x =
    let all : x / byte_values ^ 0 ≡ x = omega arith in
    bytes_left amount_length 0 x ∙ rw all
