-- RULES 1.9: amounts in words, in bytes and in cards. Assumes nothing.
use Prim.Native.Nat.{ℕ, zero, suc, ◌+◌, ◌-◌, ◌*◌, ◌/◌, ◌^◌, ◌≤◌, ◌<◌}
use native.Mathlib.Omega.{arith}
use native.Mathlib.Nat.{pow-suc}
use mathlib.Core.Path.{◌≡◌, refl, sym, ap, ◌∙◌}
use mathlib.Core.Logic.{◌↔◌}
use mathlib.Core.Bool.{Bool, true, false}
use mathlib.Core.List.{List}
use lib.Dec.{ltb}
use lib.ListN.{length, take, drop, get_or, length-append, length-drop}
use lib.Seq.{take_at, drop_at, get_or-drop}
use lib.IntN.{ℤ, pos, negsuc}
use mir.Val.{sel}
use borrow.Author.Tests.{ltb-true, ltb-false, leb-true, lt-ltb, le-leb}
use Rattle.rules.specs.Amount.{amount_of, amount_word, is_amount, most_added, is_addable, byte_values, low_first, bytes_low_first, amount_length, amount_in, with_amount}
use Rattle.rules.specs.Card.{IsCard}
use Rattle.rules.proofs.Laws.Integers.{up, dn}

-- ---- words

-- a word below 2^63 is its own amount, and any other is an amount below 0
word_cases : (P : ℤ → Type 0) (x : ℕ) → (x < 2 ^ 63 → P (pos x)) → (2 ^ 63 ≤ x → P (negsuc (2 ^ 64 - suc x))) → P (amount_of x)
unfolding amount_of
word_cases P x low high = cases (ltb x (2 ^ 63)) refl
  where
    cases : (b : Bool) → ltb x (2 ^ 63) ≡ b → P (sel b (pos x) (negsuc (2 ^ 64 - suc x)))
    cases true h = low (ltb-true x (2 ^ 63) h)
    cases false h = high (ltb-false x (2 ^ 63) h)

-- every number is read as an amount, also one that no word holds
pub amount_of_any : (x : ℕ) → is_amount (amount_of x) ≡ true
unfolding is_amount
amount_of_any x =
    word_cases (λ z. is_amount z ≡ true) x (lt-ltb x (2 ^ 63)) (λ high. lt-ltb (2 ^ 64 - suc x) (2 ^ 63) (omega arith))

-- the word law for linear arithmetic: a word of 2^63 or more stands for itself less 2^64
pub word_parts : (x : ℕ) → x < 2 ^ 64 → up (amount_of x) + (x / 2 ^ 63) * 2 ^ 64 ≡ dn (amount_of x) + x
unfolding up dn
word_parts x h =
    word_cases (λ z. up z + (x / 2 ^ 63) * 2 ^ 64 ≡ dn z + x) x (λ low. omega arith) (λ high. omega arith)

pub word_read_back : (x : ℕ) → x < 2 ^ 64 → amount_word (amount_of x) ≡ x
unfolding amount_word
word_read_back x h = word_cases (λ z. amount_word z ≡ x) x (λ low. refl) (λ high. omega arith)

pub amount_zero : amount_of 0 ≡ pos 0
unfolding amount_of
amount_zero = refl

-- ---- amounts

-- what an amount is, for linear arithmetic
pub amount_holds : (z : ℤ) → (is_amount z ≡ true) ↔ ((up z < 2 ^ 63) × (dn z ≤ 2 ^ 63))
unfolding is_amount up dn
amount_holds (pos n) = (λ h. let below = ltb-true n (2 ^ 63) h in omega arith, λ h. lt-ltb n (2 ^ 63) (omega arith))
amount_holds (negsuc n) = (λ h. let below = ltb-true n (2 ^ 63) h in omega arith, λ h. lt-ltb n (2 ^ 63) (omega arith))

-- what an event may add or take away, for linear arithmetic
pub addable_holds : (z : ℤ) → (is_addable z ≡ true) ↔ (up z + dn z ≤ most_added)
unfolding is_addable up dn
addable_holds (pos n) = (λ h. let few = leb-true n most_added h in omega arith, λ h. le-leb n most_added (omega arith))
addable_holds (negsuc n) =
    (λ h. let few = leb-true (suc n) most_added h in omega arith, λ h. le-leb (suc n) most_added (omega arith))

pub amount_read_back : (z : ℤ) → is_amount z ≡ true → amount_of (amount_word z) ≡ z
unfolding amount_word is_amount
amount_read_back (pos n) h =
    let below = ltb-true n (2 ^ 63) h in word_cases (λ z. z ≡ pos n) n (λ low. refl) (λ high. absurd (omega arith))
amount_read_back (negsuc n) h =
    let below = ltb-true n (2 ^ 63) h in
    word_cases (λ z. z ≡ negsuc n) (2 ^ 64 - suc n) (λ low. absurd (omega arith)) (λ high. ap negsuc (omega arith))

pub amount_word_below : (z : ℤ) → is_amount z ≡ true → amount_word z < 2 ^ 64
unfolding amount_word is_amount
amount_word_below (pos n) h = let below = ltb-true n (2 ^ 63) h in omega arith
amount_word_below (negsuc n) h = omega arith

-- ---- bytes

pub bytes_low_first_length : (n x : ℕ) → length (bytes_low_first n x) ≡ n
unfolding bytes_low_first
bytes_low_first_length zero x = refl
bytes_low_first_length (suc n) x = ap suc (bytes_low_first_length n (x / byte_values))

-- the bytes of a number that they can hold are that number
low_first_of_bytes : (n x : ℕ) → x < byte_values ^ n → low_first (bytes_low_first n x) ≡ x
unfolding low_first bytes_low_first
low_first_of_bytes zero x h = omega arith
low_first_of_bytes (suc n) x h = rw (low_first_of_bytes n (x / byte_values) (omega (arith, pow-suc byte_values n))) (omega arith)

pub word_of_bytes : (x : ℕ) → x < 2 ^ 64 → low_first (bytes_low_first amount_length x) ≡ x
word_of_bytes x h = low_first_of_bytes amount_length x h

-- ---- cards

module _ (card : List ℕ) (z : ℤ) where
  abbrev amount_bytes : List ℕ
  amount_bytes = bytes_low_first amount_length (amount_word z)

  amount_bytes_length : length amount_bytes ≡ amount_length
  amount_bytes_length = bytes_low_first_length amount_length (amount_word z)

  pub with_amount_length : IsCard card → IsCard (with_amount card z)
  unfolding with_amount
  with_amount_length whole = rw (length-append, amount_bytes_length, length-drop) (omega arith)

  -- the amount that was put in is read
  pub amount_put : is_amount z ≡ true → amount_in (with_amount card z) ≡ z
  unfolding amount_in with_amount
  amount_put h =
      rw (take_at amount_bytes (drop amount_length card) amount_length amount_bytes_length)
      (rw (word_of_bytes (amount_word z) (amount_word_below z h)) (amount_read_back z h))

  -- nothing else changes
  pub behind_amount : drop amount_length (with_amount card z) ≡ drop amount_length card
  unfolding with_amount
  behind_amount = drop_at amount_bytes (drop amount_length card) amount_length amount_bytes_length

  pub byte_behind_amount : (i : ℕ) → amount_length ≤ i → get_or (with_amount card z) i 0 ≡ get_or card i 0
  byte_behind_amount i h =
      let place : amount_length + (i - amount_length) ≡ i = omega arith in
      rw (place) at (sym (get_or-drop amount_length (with_amount card z) (i - amount_length) 0)
      ∙ ap (λ bytes. get_or bytes (i - amount_length) 0) behind_amount
      ∙ get_or-drop amount_length card (i - amount_length) 0)

-- the amount in any bytes is one
pub amount_in_any : (card : List ℕ) → is_amount (amount_in card) ≡ true
unfolding amount_in
amount_in_any card = amount_of_any (low_first (take amount_length card))

-- the last amount put in stays
pub with_amount_again : (card : List ℕ) (y z : ℤ) → with_amount (with_amount card y) z ≡ with_amount card z
unfolding with_amount
with_amount_again card y z = rw (behind_amount card y)
