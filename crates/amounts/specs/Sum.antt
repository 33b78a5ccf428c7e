-- Exact sums of amounts by their words: the sum of the words with its carries, and a count of those below 0. Assumes nothing.
use Rattle.std.specs.Prelude.{ℕ, ◌+◌, ◌*◌, ◌/◌, ◌%◌, ◌^◌, ◌<◌, ℤ}
use Rattle.std.proofs.Math.IntN.{sub_ℕ}
use Rattle.amounts.specs.declared.sum.Sum.{Sum}

-- how many values a word has, and the first of them that stands for an amount below 0
abbrev pub word_values : ℕ
word_values = 2 ^ 64

abbrev pub first_negative : ℕ
first_negative = 2 ^ 63

-- what a sum stands for
unfoldable pub value_of : Sum → ℤ
value_of sum = sub_ℕ (sum.low + sum.carries * word_values) (sum.negatives * word_values)

-- the sum of one word
unfoldable pub sum_of : ℕ → Sum
sum_of word = record { low = word; carries = 0; negatives = word / first_negative }

-- a word added
unfoldable pub plus_word : Sum → ℕ → Sum
plus_word sum word =
    record {
      low = (sum.low + word) % word_values;
      carries = sum.carries + (sum.low + word) / word_values;
      negatives = sum.negatives + word / first_negative;
    }

-- both counts can be raised
pub record HasRoom (sum : Sum) : Type 0 where
  pub carries_room : sum.carries + 1 < word_values
  pub negatives_room : sum.negatives + 1 < word_values
