-- What a sum of words stands for is the sum of their amounts. Assumes nothing.
use Prim.Native.Nat.{ℕ, suc, ◌+◌, ◌*◌, ◌≤◌, ◌<◌}
use native.Mathlib.Omega.{arith}
use mathlib.Core.Path.{◌≡◌, sym, ap, ◌∙◌}
use mathlib.Core.Bool.{true}
use lib.IntN.{◌+ℤ◌}
use Rattle.rules.specs.Amount.{amount_of, amount_word, is_amount}
use Rattle.rules.proofs.Laws.Integers.{up, dn, same_integer, difference_parts, sum_parts}
use Rattle.rules.proofs.Laws.Amounts.{word_parts, word_read_back, amount_of_any, amount_holds}
use Rattle.amounts.specs.declared.sum.Sum.{Sum}
use Rattle.amounts.specs.Sum.{word_values, value_of, sum_of, plus_word, HasRoom}

-- what a sum stands for, for linear arithmetic
pub value_parts :
    (s : Sum) → up (value_of s) + s.negatives * word_values ≡ dn (value_of s) + (s.low + s.carries * word_values)
unfolding value_of
value_parts s = difference_parts (s.low + s.carries * word_values) (s.negatives * word_values)

pub value_of_word : (x : ℕ) → x < word_values → value_of (sum_of x) ≡ amount_of x
unfolding sum_of
value_of_word x h = same_integer (value_of (sum_of x)) (amount_of x) (omega (arith, value_parts (sum_of x), word_parts x h))

pub value_plus : (s : Sum) (x : ℕ) → x < word_values → value_of (plus_word s x) ≡ value_of s +ℤ amount_of x
unfolding plus_word
value_plus s x h =
    same_integer (value_of (plus_word s x)) (value_of s +ℤ amount_of x)
    (omega (arith, value_parts (plus_word s x), value_parts s, word_parts x h, sum_parts (value_of s) (amount_of x)))

-- where a sum is an amount, its low word is the word of it
pub word_of_sum : (s : Sum) → s.low < word_values → is_amount (value_of s) ≡ true → amount_word (value_of s) ≡ s.low
word_of_sum s fits is = ap amount_word same ∙ word_read_back s.low fits
  where
    same : value_of s ≡ amount_of s.low
    same =
        same_integer (value_of s) (amount_of s.low)
        (omega (
          arith,
          value_parts s,
          word_parts s.low fits,
          (amount_holds (value_of s)).0 is,
          (amount_holds (amount_of s.low)).0 (amount_of_any s.low),
        ))

-- ---- how far the counts get

-- n words at most were added up
pub record Counted (n : ℕ) (s : Sum) : Type 0 where
  pub fits : s.low < word_values
  pub few_carries : s.carries ≤ n
  pub few_negatives : s.negatives ≤ n

pub counted_first : (x : ℕ) → x < word_values → Counted 1 (sum_of x)
unfolding sum_of
counted_first x h = omega arith

pub counted_plus : {n : ℕ} (s : Sum) (x : ℕ) → Counted n s → x < word_values → Counted (suc n) (plus_word s x)
unfolding plus_word
counted_plus s x counted h = omega arith

-- fewer words than a word has values leave room for one more
pub counted_room : {n : ℕ} (s : Sum) → Counted n s → n + 1 < word_values → HasRoom s
counted_room s counted few = omega arith

-- ---- the sum of two words

pub room_for_second : (x : ℕ) → x < word_values → HasRoom (sum_of x)
room_for_second x h = counted_room (sum_of x) (counted_first x h) (omega arith)

module _ (x y : ℕ) (hx : x < word_values) (hy : y < word_values) where
  pub value_of_two : value_of (plus_word (sum_of x) y) ≡ amount_of x +ℤ amount_of y
  value_of_two = value_plus (sum_of x) y hy ∙ ap (λ z. z +ℤ amount_of y) (value_of_word x hx)

  -- its low word, where the sum is an amount
  pub word_of_two : is_amount (amount_of x +ℤ amount_of y) ≡ true → (plus_word (sum_of x) y).low ≡ amount_word (amount_of x +ℤ amount_of y)
  word_of_two is =
      let sum = plus_word (sum_of x) y in
      sym (word_of_sum sum (counted_plus (sum_of x) y (counted_first x hx) hy).fits (rw value_of_two is))
      ∙ ap amount_word value_of_two
