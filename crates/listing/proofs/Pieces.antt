-- Texts of a listing in the pieces in which they are put: words, numbers and sums with a space before them, single bytes, and
-- line after line. Assumes nothing.
use Prim.Native.Nat.{ℕ, zero, suc, ◌+◌, ◌≤◌}
use native.Mathlib.Nat.{zero-add, add-zero}
use native.Mathlib.Omega.{arith}
use native.Mathlib.Numerals.{add-one, one-add}
use mathlib.Core.Path.{◌≡◌, ap, ◌∙◌}
use mathlib.Core.Bool.{true, false}
use mathlib.Core.List.{List, [], ◌∷◌, ◌++◌, append-nil, append_assoc}
use lib.ListN.{length, length-append}
use borrow.Author.Tests.{eq-eqb, ne_eqb}
use Rattle.rules.specs.Amount.{amount_of}
use Rattle.rules.specs.Encoding.{read_sum_kind}
use Rattle.text.specs.Text.{decimal, signed, spaced, space, line_feed}
use Rattle.listing.specs.Listing.{spaced_sum, end_line, end_word}
use Rattle.listing.specs.Buffer.{word_of, has_no_numbers, has_two_numbers, numbers_of, said_sum, text_of, line_of, line_at, lines_of}

pub spaced_one : (n : ℕ) → spaced (n ∷ []) ≡ space ∷ decimal n
unfolding spaced
spaced_one n = rw append-nil

pub spaced_two : (m n : ℕ) → spaced (m ∷ n ∷ []) ≡ (space ∷ decimal m) ++ (space ∷ decimal n)
unfolding spaced
spaced_two m n = rw append-nil

pub spaced_three :
    (l m n : ℕ) → spaced (l ∷ m ∷ n ∷ []) ≡ (space ∷ decimal l) ++ ((space ∷ decimal m) ++ (space ∷ decimal n))
unfolding spaced
spaced_three l m n = rw append-nil

module _ (kind first second : ℕ) where
  -- written, added and entered
  pub no_numbers : has_no_numbers kind ≡ true → spaced (numbers_of kind first second) ≡ []
  unfolding numbers_of spaced
  no_numbers none = rw none

  -- read, a commit's failed, and aborted
  pub two_numbers :
      has_no_numbers kind ≡ false → has_two_numbers kind ≡ true →
      spaced (numbers_of kind first second) ≡ (space ∷ decimal first) ++ (space ∷ decimal second)
  unfolding numbers_of
  two_numbers some two = rw (some, two, spaced_two first second)

  -- any other answer
  pub one_number :
      has_no_numbers kind ≡ false → has_two_numbers kind ≡ false → spaced (numbers_of kind first second) ≡ space ∷ decimal first
  unfolding numbers_of
  one_number some one = rw (some, one, spaced_one first)

  -- unless there are no numbers there is room for the first
  pub first_fits : has_no_numbers kind ≡ false → length (space ∷ decimal first) ≤ length (spaced (numbers_of kind first second))
  unfolding numbers_of spaced
  first_fits some = rw some (simp length-append (omega arith))

  module _ (third : ℕ) where
    -- a read of a charge account: the sum stands behind the numbers
    pub text_sum :
        kind ≡ read_sum_kind →
        text_of kind first second third ≡ word_of kind ++ spaced (numbers_of kind first second) ++ (space ∷ signed (amount_of third))
    unfolding text_of said_sum spaced_sum
    text_sum is = rw (eq-eqb kind read_sum_kind is)

    pub length_with_sum :
        kind ≡ read_sum_kind →
        length (text_of kind first second third)
        ≡ length (word_of kind) + length (spaced (numbers_of kind first second)) + length (space ∷ signed (amount_of third))
    length_with_sum is = rw (text_sum is) (simp length-append (omega arith))

    -- any other answer: the word and the numbers
    pub text_plain :
        (kind ≡ read_sum_kind → ⊥) → text_of kind first second third ≡ word_of kind ++ spaced (numbers_of kind first second)
    unfolding text_of said_sum spaced_sum
    text_plain other = rw (ne_eqb kind read_sum_kind other, append-nil)

    pub length_of_line :
        (place : ℕ)
        → length (line_of place kind first second third) ≡ length (decimal place) + (length (text_of kind first second third) + 2)
    unfolding line_of
    length_of_line place = simp length-append (omega arith)

pub length_of_end :
    (starts top sub : ℕ)
    → length (end_line starts top sub)
    ≡ length end_word + length (space ∷ decimal starts) + length (space ∷ decimal top) + length (space ∷ decimal sub) + 1
length_of_end starts top sub =
    omega (
      arith,
      length-append (end_word ++ spaced (starts ∷ top ∷ sub ∷ [])) (line_feed ∷ []),
      ap length (spaced_three starts top sub),
      length-append (space ∷ decimal starts) ((space ∷ decimal top) ++ (space ∷ decimal sub)),
      length-append (space ∷ decimal top) (space ∷ decimal sub),
    )

-- one more line stands behind the others
next_line :
    (words : List ℕ) (place i n : ℕ)
    → lines_of words place i (suc n) ≡ lines_of words place i n ++ line_at words (place + n) (i + n)
unfolding lines_of
next_line words place i zero = rw (add-zero place, add-zero i, append-nil)
next_line words place i (suc n) =
    let place_on : place + suc n ≡ suc place + n = omega arith in
    let i_on : i + suc n ≡ suc i + n = omega arith in
    rw (place_on, i_on, append_assoc)
    (ap (λ (lines : List ℕ). line_at words place i ++ lines) (next_line words (suc place) (suc i) n))

-- the first n answers' lines and the next one's
pub lines_next : (words : List ℕ) (n : ℕ) → lines_of words 1 0 (n + 1) ≡ lines_of words 1 0 n ++ line_at words (n + 1) n
lines_next words n = rw (add-one n) (next_line words 1 0 n ∙ rw (zero-add n, one-add n))
