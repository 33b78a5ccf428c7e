-- RULES 14.6: worked lists, and what is printed of them. proofs/Worked.antt proves them by computing. Assumes nothing.
use Rattle.std.specs.Prelude.{◌≡◌, ℕ, ◌%◌, ◌^◌, ◌<◌, ◌≤◌, ◌≢◌, List, [], ◌∷◌, ◌++◌, map, length, ℤ, pos, neg_ℤ}
use mathlib.Core.List.{flat_map}
use Rattle.rules.specs.Amount.{amount_length, amount_word, bytes_low_first}
use Rattle.text.specs.Text.{space, line_feed, decimal, signed, hexadecimal, refused_line}
use Rattle.charges.specs.List.{charge_length, list_length}
use Rattle.charges.specs.Column.{column_text}

-- a charge as it is written there: an account and cents
pub record Charge : Type 0 where
  pub account : ℕ
  pub amount : ℤ

abbrev pub charge : ℕ → ℤ → Charge
charge a c = record { account = a; amount = c }

-- the bytes of charges
unfoldable pub list_of : List Charge → List ℕ
list_of charges = flat_map (λ c. c.account ∷ bytes_low_first amount_length (amount_word c.amount)) charges

-- a totals as it is written there: an account, its cents, and the bits of its old total
pub record Totals : Type 0 where
  pub account : ℕ
  pub cents : ℤ
  pub bits : ℕ

abbrev pub totals : ℕ → ℤ → ℕ → Totals
totals a c b = record { account = a; cents = c; bits = b }

unfoldable pub totals_text : List Totals → List ℕ
totals_text shown =
    flat_map
    (λ t. decimal t.account ++ (space ∷ signed t.cents) ++ (space ∷ hexadecimal t.bits) ++ (line_feed ∷ []))
    shown

-- lists 1 to 6, the charges of one after those of the other
unfoldable pub lists1_to6 : List Charge
lists1_to6 =
    charge 24 (pos 10) ∷ charge 24 (pos 10) ∷ charge 24 (pos 10)
    ∷ charge 30 (neg_ℤ (pos 10)) ∷ charge 30 (neg_ℤ (pos 10)) ∷ charge 30 (neg_ℤ (pos 10))
    ∷ charge 25 (pos 110) ∷ charge 25 (pos 220)
    ∷ charge 31 (pos 1000000)
    ∷ charge 26 (neg_ℤ (pos 1000000))
    ∷ charge 27 (neg_ℤ (pos 10)) ∷ charge 27 (pos 10) ∷ charge 27 (pos 0)
    ∷ []

unfoldable pub totals1_to6 : List Totals
totals1_to6 =
    totals 24 (pos 30) 0x3fd3333333333334
    ∷ totals 25 (pos 330) 0x400a666666666667
    ∷ totals 26 (neg_ℤ (pos 1000000)) 0xc0c3880000000000
    ∷ totals 27 (pos 0) 0
    ∷ totals 28 (pos 0) 0
    ∷ totals 29 (pos 0) 0
    ∷ totals 30 (neg_ℤ (pos 30)) 0xbfd3333333333334
    ∷ totals 31 (pos 1000000) 0x40c3880000000000
    ∷ []

-- list 9
unfoldable pub totals9 : List Totals
totals9 = map (λ a. totals a (pos 0) 0) (24 ∷ 25 ∷ 26 ∷ 27 ∷ 28 ∷ 29 ∷ 30 ∷ 31 ∷ [])

-- lists 10 to 16, of which the last stands for two, and their faults
unfoldable pub lists10_to16 : List (List ℕ)
lists10_to16 =
    list_of (charge 24 (pos 1000001) ∷ charge 23 (pos 5) ∷ [])
    ∷ list_of (charge 23 (pos 5) ∷ charge 24 (pos 1000001) ∷ [])
    ∷ list_of (charge 23 (pos 1000001) ∷ [])
    ∷ list_of (charge 24 (neg_ℤ (pos 1000001)) ∷ [])
    ∷ list_of (charge 32 (pos 1) ∷ [])
    ∷ list_of (charge 24 (neg_ℤ (pos (2 ^ 63))) ∷ [])
    ∷ (24 ∷ 1 ∷ 0 ∷ 0 ∷ 0 ∷ [])
    ∷ (5 ∷ 0 ∷ 0 ∷ 0 ∷ 0 ∷ 0 ∷ 0 ∷ 0 ∷ 0 ∷ 24 ∷ [])
    ∷ []

unfoldable pub faults10_to16 : List ℕ
faults10_to16 = 14 ∷ 13 ∷ 13 ∷ 14 ∷ 13 ∷ 14 ∷ 10 ∷ 10 ∷ []

-- all of them print what they should
pub record Print : Type 0 where
  pub figures : column_text (list_of lists1_to6) ≡ totals_text totals1_to6
  pub empty : column_text [] ≡ totals_text totals9
  pub faults : map column_text lists10_to16 ≡ map refused_line faults10_to16
  -- list 17, and what RULES 14.2 says of every list that is too long, and of every other that is cut, whatever stands in it
  pub long : (list : List ℕ) → list_length < length list → column_text list ≡ refused_line 11
  pub cut : (list : List ℕ) → length list ≤ list_length → length list % charge_length ≢ 0 → column_text list ≡ refused_line 10
