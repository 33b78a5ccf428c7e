-- How long the lines of a listing can be: 9 letters, two numbers and a sum of 20 bytes each and a place of 4. So the lines of
-- 1,000 answers and the last line fit 81,920 bytes. Assumes nothing.
use Prim.Native.Nat.{ℕ, zero, suc, ◌+◌, ◌-◌, ◌*◌, ◌^◌, ◌≤◌, ◌<◌}
use native.Mathlib.Omega.{arith}
use mathlib.Core.Bool.{Bool, cond}
use mathlib.Core.Option.{Option}
use mathlib.Core.List.{List, ◌∷◌}
use lib.Dec.{eqb, lit≤}
use lib.ListN.{length, get_or, length-append}
use lib.IntN.{ℤ}
use Rattle.rules.specs.Encoding.{most_events, answer_length, refused_kind, started_kind, read_kind, written_kind, committed_kind, failed_kind, aborted_kind, added_kind, read_sum_kind, entered_kind, ready_kind}
use Rattle.rules.proofs.Laws.Tests.{cond_holds}
use Rattle.text.specs.Text.{decimal, spaced, refused_line}
use Rattle.listing.specs.Listing.{spaced_sum, end_line}
use Rattle.listing.specs.Buffer.{word_of, has_no_numbers, has_two_numbers, numbers_of, said_sum, text_of, line_of, line_at, lines_of, listing_length}
use Rattle.text.proofs.Decimals.{decimal_bound, decimal_below, signed_bound}
use Rattle.text.proofs.RefusedLine.{refused_bound}
use Rattle.listing.proofs.Pieces.{length_of_line, length_of_end}

-- what holds of both outcomes holds of the one that a test picks
pub either : {A : Type 0} (P : A → Type 0) (b : Bool) {x y : A} → P x → P y → P (cond b x y)
either P b p q = cond_holds P b (λ _. p) (λ _. q)

-- the letters of the longest word, `committed`
abbrev most_letters : ℕ
most_letters = 9

abbrev pub Short : List ℕ → Type 0
Short word = length word ≤ most_letters

word_bound : (kind : ℕ) → Short (word_of kind)
unfolding word_of
word_bound kind =
    either Short (eqb kind refused_kind) (lit≤ tt)
    (either Short (eqb kind started_kind) (lit≤ tt)
    (either Short (eqb kind read_kind) (lit≤ tt)
    (either Short (eqb kind written_kind) (lit≤ tt)
    (either Short (eqb kind committed_kind) (lit≤ tt)
    (either Short (eqb kind failed_kind) (lit≤ tt)
    (either Short (eqb kind aborted_kind) (lit≤ tt)
    (either Short (eqb kind added_kind) (lit≤ tt)
    (either Short (eqb kind read_sum_kind) (lit≤ tt)
    (either Short (eqb kind entered_kind) (lit≤ tt)
    (either Short (eqb kind ready_kind) (lit≤ tt) (lit≤ tt)))))))))))

-- two numbers of 20 digits, each with a space before it
abbrev numbers_length : ℕ
numbers_length = 42

numbers_bound : (kind first second : ℕ) → length (spaced (numbers_of kind first second)) ≤ numbers_length
unfolding numbers_of spaced
numbers_bound kind first second =
    either (λ (numbers : List ℕ). length (spaced numbers) ≤ numbers_length) (has_no_numbers kind)
    (lit≤ tt)
    (either (λ (numbers : List ℕ). length (spaced (first ∷ numbers)) ≤ numbers_length) (has_two_numbers kind)
    (simp length-append (omega (arith, decimal_bound first, decimal_bound second)))
    (simp length-append (omega (arith, decimal_bound first))))

-- a sum of 20 bytes with a space before it
abbrev sum_length : ℕ
sum_length = 21

sum_bound : (kind third : ℕ) → length (spaced_sum (said_sum kind third)) ≤ sum_length
unfolding said_sum spaced_sum
sum_bound kind third =
    either (λ (sum : Option ℤ). length (spaced_sum sum) ≤ sum_length) (eqb kind read_sum_kind)
    (omega (arith, signed_bound third))
    (lit≤ tt)

-- the longest text of an answer: its word, two numbers and a sum
abbrev pub text_length : ℕ
text_length = 72

pub text_bound : (kind first second third : ℕ) → length (text_of kind first second third) ≤ text_length
unfolding text_of
text_bound kind first second third =
    simp length-append (omega (arith, word_bound kind, numbers_bound kind first second, sum_bound kind third))

-- the digits of the highest place of a day, which is most_events
abbrev place_digits : ℕ
place_digits = 4

place_bound : (n : ℕ) → n < 10 ^ place_digits → length (decimal n) ≤ place_digits
place_bound n h = decimal_below (place_digits - 1) n (omega arith)

-- the longest line: a place of 4 digits, a space, the text and a line feed
abbrev line_length : ℕ
line_length = 78

line_bound :
    (place kind first second third : ℕ) → place < 10 ^ place_digits → length (line_of place kind first second third) ≤ line_length
line_bound place kind first second third h =
    omega (
      arith,
      length_of_line kind first second third place,
      place_bound place h,
      text_bound kind first second third,
    )

lines_bound : (words : List ℕ) (place i n : ℕ) → place + n ≤ most_events + 1 → length (lines_of words place i n) ≤ line_length * n
unfolding lines_of
lines_bound words place i zero h = omega arith
lines_bound words place i (suc n) h =
    simp length-append
    (omega (
      arith,
      line_bound place (get_or words (answer_length * i) 0) (get_or words (answer_length * i + 1) 0)
          (get_or words (answer_length * i + 2) 0) (get_or words (answer_length * i + 3) 0) (omega arith),
      lines_bound words (suc place) (suc i) n (omega arith),
    ))

-- behind the lines of some of a day's answers there is room for the next one's
pub line_fits :
    (words : List ℕ) (n : ℕ) → n < most_events →
    length (lines_of words 1 0 n) + length (line_at words (n + 1) n) ≤ listing_length
line_fits words n more =
    omega (
      arith,
      lines_bound words 1 0 n (omega arith),
      line_bound (n + 1) (get_or words (answer_length * n) 0) (get_or words (answer_length * n + 1) 0)
          (get_or words (answer_length * n + 2) 0) (get_or words (answer_length * n + 3) 0) (omega arith),
    )

-- the longest last line: a word of 3 letters, three numbers of 20 digits, three spaces and a line feed
abbrev pub end_length : ℕ
end_length = 67

pub end_bound : (starts top sub : ℕ) → length (end_line starts top sub) ≤ end_length
end_bound starts top sub =
    omega (arith, length_of_end starts top sub, decimal_bound starts, decimal_bound top, decimal_bound sub)

-- the lines of a day and the last line fit the buffer
pub listing_fits :
    (words : List ℕ) (n starts top sub : ℕ) → n ≤ most_events
    → length (lines_of words 1 0 n) + length (end_line starts top sub) ≤ listing_length
listing_fits words n starts top sub h =
    omega (arith, lines_bound words 1 0 n (omega arith), end_bound starts top sub)

pub refused_fits : (fault : ℕ) → length (refused_line fault) ≤ listing_length
refused_fits fault = omega (arith, refused_bound fault)
