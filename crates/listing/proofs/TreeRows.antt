-- Lines of a tree as rows of words: what is said of one in its row is what is said of it among all. Assumes nothing.
use Rattle.std.proofs.Common.{◌≡◌, ℕ, zero, suc, ◌*◌, ◌+◌, ◌<◌, ◌≤◌, List, length, take, length-take-le, [], ◌∷◌, ◌++◌, refl, ap₂, arith, add-zero, zero-add, add_assoc, drop, ◌∙◌}
use lib.ListN.{get_or, length-drop}
use Rattle.std.proofs.lemmas.List.{get_or-take}
use lib.Seq.{get_or-drop}
use Rattle.rules.specs.Amount.{amount_of}
use Rattle.rules.specs.Card.{charge_count}
use Rattle.rules.specs.Tree.{line_length, balance_length, block_place}
use Rattle.text.specs.Text.{space, signed}
use Rattle.listing.specs.Report.{signed_from, line_figures, balance_figures, line_at_place, balance_at_place}
use Rattle.listing.specs.Rows.{AreRows}

-- the same words from two places on are the same numbers
pub signed_same :
    (row words : List ℕ) (at there n : ℕ)
    → ((k : ℕ) → k < n → get_or row (at + k) 0 ≡ get_or words (there + k) 0)
    → signed_from row at n ≡ signed_from words there n
unfolding signed_from
signed_same row words at there zero same = refl
signed_same row words at there (suc n) same =
    ap₂ (λ first others. (space ∷ signed (amount_of first)) ++ others)
    (rw (add-zero at, add-zero there) at (same 0 (omega arith)))
    (signed_same row words (suc at) (suc there) n
    (λ k more.
    let here : suc at + k ≡ at + suc k = omega arith in
    let on : suc there + k ≡ there + suc k = omega arith in
    rw (here, on) (same (suc k) (omega arith))))

-- figures behind the first words of a row
pub figures_behind :
    (row : List ℕ) (at n : ℕ) → at + n ≤ length row →
    let figures = take n (drop at row) in
    signed_from figures 0 (length figures) ≡ signed_from row at n
figures_behind row at n inside =
    let many : length (take n (drop at row)) ≡ n = length-take-le n (drop at row) (omega (arith, length-drop at row)) in
    rw many
    (signed_same (take n (drop at row)) row 0 at n
    (λ k more. rw zero-add (get_or-take n (drop at row) k 0 more ∙ get_or-drop at row k 0)))

-- the row's words stand among all words from a place on
module _ (row words : List ℕ) (at : ℕ) where
  pub line_same : ((k : ℕ) → k < line_length → get_or row k 0 ≡ get_or words (at + k) 0) → line_at_place row 0 ≡ line_at_place words at
  unfolding line_at_place
  line_same stands =
      let figures = signed_same row words 3 (at + 3) line_figures
      (λ k more. stands (3 + k) (omega arith) ∙ rw add_assoc) in
      rw (rw add-zero at (stands 0 (omega arith)), stands 1 (omega arith), stands 2 (omega arith), figures)

  pub balance_same :
      ((k : ℕ) → k < balance_length → get_or row k 0 ≡ get_or words (at + k) 0) → balance_at_place row 0 ≡ balance_at_place words at
  unfolding balance_at_place
  balance_same stands =
      let figures = signed_same row words 1 (at + 1) balance_figures
      (λ k more. stands (1 + k) (omega arith) ∙ rw add_assoc) in
      rw (rw add-zero at (stands 0 (omega arith)), figures)

-- the ith line
pub line_of_row :
    {count : ℕ} (words : List ℕ) {rows : List (List ℕ)} (i : ℕ) → i < count → AreRows line_length count words rows
    → line_at_place (get_or rows i []) 0 ≡ line_at_place words (line_length * i)
line_of_row words {rows} i inside are = line_same (get_or rows i []) words (line_length * i) (λ k more. are.each i k inside more)

-- the ith line of the last block
pub balance_of_row :
    (words : List ℕ) {rows : List (List ℕ)} (n i : ℕ) → balance_length * charge_count ≤ n → i < charge_count
    → AreRows balance_length charge_count (take n (drop block_place words)) rows
    → balance_at_place (get_or rows i []) 0 ≡ balance_at_place words (block_place + balance_length * i)
balance_of_row words {rows} n i whole inside are =
    balance_same (get_or rows i []) words (block_place + balance_length * i)
    (λ k more.
    are.each i k inside more
    ∙ get_or-take n (drop block_place words) (balance_length * i + k) 0 (omega arith)
    ∙ get_or-drop block_place words (balance_length * i + k) 0
    ∙ rw add_assoc)
