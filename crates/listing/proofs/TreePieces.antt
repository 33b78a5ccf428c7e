-- The text of a tree in the pieces in which it is put, and how long it can be: a line has at most 388 bytes and one of the last
-- block at most 84, so that all of them fit 81,920 bytes. Assumes nothing.
use Prim.Native.Nat.{ℕ, zero, suc, ◌+◌, ◌-◌, ◌*◌, ◌≤◌, ◌<◌}
use native.Mathlib.Nat.{zero-add, add-zero, suc-add, mul-zero, mul-suc, one-mul}
use native.Mathlib.Omega.{arith}
use native.Mathlib.Numerals.{add-one}
use mathlib.Core.Path.{◌≡◌, refl, ap, ◌∙◌}
use mathlib.Core.List.{List, ◌∷◌, ◌++◌, append-nil, append_assoc}
use lib.Dec.{eqb, lit≤}
use lib.ListN.{length, get_or, length-append}
use Rattle.rules.specs.Amount.{amount_of}
use Rattle.rules.specs.Card.{charge_count}
use Rattle.rules.specs.Table.{live, committed, most_actions}
use Rattle.rules.specs.Tree.{line_length, balance_length, block_place}
use Rattle.text.specs.Text.{space, decimal, signed}
use Rattle.listing.specs.Buffer.{listing_length}
use Rattle.listing.specs.Tree.{state_word}
use Rattle.listing.specs.Report.{signed_from, line_figures, balance_figures, line_at_place, balance_at_place, lines_every}
use Rattle.text.proofs.Decimals.{decimal_bound, signed_bound}
use Rattle.listing.proofs.Pieces.{spaced_one}
use Rattle.listing.proofs.Bounds.{either, Short}

-- ---- line after line

module _ (step : ℕ) (line : ℕ → List ℕ) where
  -- some lines, and behind them the others
  lines_split :
      (at m n : ℕ) → lines_every step line at (m + n) ≡ lines_every step line at m ++ lines_every step line (at + step * m) n
  unfolding lines_every
  lines_split at zero n = rw (zero-add n, mul-zero step, add-zero at)
  lines_split at (suc m) n =
      let on : at + step * suc m ≡ at + step + step * m = rw (mul-suc step m) (omega arith) in
      rw (suc-add m n, on, append_assoc) (ap (λ (lines : List ℕ). line at ++ lines) (lines_split (at + step) m n))

  -- one more line stands behind the others
  pub lines_next : (at n : ℕ) → lines_every step line at (n + 1) ≡ lines_every step line at n ++ line (at + step * n)
  unfolding lines_every
  lines_next at n = lines_split at n 1 ∙ rw append-nil

  -- where all lines have room, so has one more behind some of them
  pub next_fits :
      (at i n : ℕ) → i < n →
      length (lines_every step line at i) + length (line (at + step * i)) ≤ length (lines_every step line at n)
  next_fits at i n more =
      let rest : n ≡ i + 1 + (n - (i + 1)) = omega arith in
      omega (
        arith,
        ap length (rw (← rest) at (lines_split at (i + 1) (n - (i + 1)))),
        length-append (lines_every step line at (i + 1)) (lines_every step line (at + step * (i + 1)) (n - (i + 1))),
        ap length (lines_next at i),
        length-append (lines_every step line at i) (line (at + step * i)),
      )

  -- n lines are no longer than n times the longest
  lines_bound :
      (most : ℕ) → ((place : ℕ) → length (line place) ≤ most) → (at n : ℕ) → length (lines_every step line at n) ≤ most * n
  unfolding lines_every
  lines_bound most short at zero = omega arith
  lines_bound most short at (suc n) =
      simp length-append (omega (arith, short at, lines_bound most short (at + step) n, mul-suc most n))

-- ---- figures

-- a word as a signed number, with a space before it
abbrev signed_at : List ℕ → ℕ → List ℕ
signed_at words at = space ∷ signed (amount_of (get_or words at 0))

-- the longest: a space, and a number of 20 bytes with its sign
abbrev most_figure : ℕ
most_figure = 21

-- they follow each other as lines do, one word to each
module _ (words : List ℕ) where
  signeds_every : (at n : ℕ) → signed_from words at n ≡ lines_every 1 (signed_at words) at n
  unfolding signed_from lines_every
  signeds_every at zero = refl
  signeds_every at (suc n) =
      rw (add-one at) (ap (λ (others : List ℕ). signed_at words at ++ others) (signeds_every (suc at) n))

  pub signeds_next : (at n : ℕ) → signed_from words at (n + 1) ≡ signed_from words at n ++ signed_at words (at + n)
  signeds_next at n =
      rw (signeds_every at (n + 1), signeds_every at n) (rw one-mul at (lines_next 1 (signed_at words) at n))

  pub next_signed_fits :
      (at i n : ℕ) → i < n → length (signed_from words at i) + length (signed_at words (at + i)) ≤ length (signed_from words at n)
  next_signed_fits at i n more =
      rw (signeds_every at i, signeds_every at n) (rw one-mul at (next_fits 1 (signed_at words) at i n more))

  signeds_bound : (at n : ℕ) → length (signed_from words at n) ≤ most_figure * n
  signeds_bound at n =
      rw (signeds_every at n)
      (lines_bound 1 (signed_at words) most_figure (λ place. omega (arith, signed_bound (get_or words place 0))) at n)

-- ---- lines

state_bound : (state : ℕ) → Short (state_word state)
unfolding state_word
state_bound state = either Short (eqb state live) (lit≤ tt) (either Short (eqb state committed) (lit≤ tt) (lit≤ tt))

-- the longest line: a depth and a number of 20 digits, a word of 9 letters, 16 figures, two spaces and a line feed
abbrev most_line : ℕ
most_line = 388

-- and the last block's longest: an account of 20 digits, 3 figures and a line feed
abbrev most_balance : ℕ
most_balance = 84

module _ (words : List ℕ) (at : ℕ) where
  pub length_of_line :
      length (line_at_place words at)
      ≡ length (decimal (get_or words at 0)) + length (space ∷ decimal (get_or words (at + 1) 0))
      + length (space ∷ state_word (get_or words (at + 2) 0)) + length (signed_from words (at + 3) line_figures) + 1
  unfolding line_at_place
  length_of_line = rw spaced_one (simp length-append (omega arith))

  pub length_of_balance :
      length (balance_at_place words at)
      ≡ length (decimal (get_or words at 0)) + length (signed_from words (at + 1) balance_figures) + 1
  unfolding balance_at_place
  length_of_balance = simp length-append (omega arith)

  line_bound : length (line_at_place words at) ≤ most_line
  line_bound =
      omega (
        arith,
        length_of_line,
        decimal_bound (get_or words at 0),
        decimal_bound (get_or words (at + 1) 0),
        state_bound (get_or words (at + 2) 0),
        signeds_bound words (at + 3) line_figures,
      )

  balance_bound : length (balance_at_place words at) ≤ most_balance
  balance_bound =
      omega (arith, length_of_balance, decimal_bound (get_or words at 0), signeds_bound words (at + 1) balance_figures)

-- the lines of the actions and of the last block fit the buffer
pub tree_fits :
    (words : List ℕ) (n : ℕ) → n ≤ most_actions
    → length (lines_every line_length (line_at_place words) 0 n)
    + length (lines_every balance_length (balance_at_place words) block_place charge_count) ≤ listing_length
tree_fits words n few =
    omega (
      arith,
      lines_bound line_length (line_at_place words) most_line (line_bound words) 0 n,
      lines_bound balance_length (balance_at_place words) most_balance (balance_bound words) block_place charge_count,
    )
