-- RULES 1.9: amounts, which are whole numbers of cents, and how they lie in words and in the cards of charge accounts.
-- Assumes nothing.
use Rattle.std.specs.Prelude.{ℕ, zero, suc, ◌+◌, ◌*◌, ◌/◌, ◌%◌, ◌^◌, Bool, List, [], ◌∷◌, ◌++◌, leb, ltb, take, drop, ℤ, nat_abs}
use Rattle.std.specs.Int.Signed.{mag}
use Rattle.std.specs.Int.{w64}
use mir.Val.{hbits, to_z, of_z}
use Rattle.rules.specs.Card.{base_place, card_at}

-- the amount that a word is, read as two's complement; and the word of an amount
unfoldable pub amount_of : ℕ → ℤ
amount_of word = to_z w64 word

unfoldable pub amount_word : ℤ → ℕ
amount_word z = of_z w64 z

-- 64 signed bits hold it: from -2^63 to 2^63 - 1
unfoldable pub is_amount : ℤ → Bool
is_amount z = ltb (mag z) (2 ^ hbits w64)

-- the largest amount that an event may add or take away
abbrev pub most_added : ℕ
most_added = 1000000

unfoldable pub is_addable : ℤ → Bool
is_addable z = leb (nat_abs z) most_added

-- how many values a byte has
abbrev pub byte_values : ℕ
byte_values = 256

-- the number that these bytes are, low byte first
unfoldable pub low_first : List ℕ → ℕ
low_first [] = 0
low_first (byte ∷ bytes) = byte + byte_values * low_first bytes

-- the n bytes of a number, low byte first
unfoldable pub bytes_low_first : ℕ → ℕ → List ℕ
bytes_low_first zero x = []
bytes_low_first (suc n) x = (x % byte_values) ∷ bytes_low_first n (x / byte_values)

-- the first bytes of a charge account's card are its amount
abbrev pub amount_length : ℕ
amount_length = 8

unfoldable pub amount_in : List ℕ → ℤ
amount_in card = amount_of (low_first (take amount_length card))

-- the card with another amount: no other byte of it changes
unfoldable pub with_amount : List ℕ → ℤ → List ℕ
with_amount card z = bytes_low_first amount_length (amount_word z) ++ drop amount_length card

-- the amount of charge account k in the base store
unfoldable pub base_amount : List ℕ → ℕ → ℤ
base_amount base k = amount_in (card_at base (base_place k))
