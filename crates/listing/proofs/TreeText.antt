-- The text that is made from the words of a tree's report is the text of the tree. Assumes nothing.
use Prim.Native.Nat.{ℕ, zero, suc, ◌+◌, ◌-◌, ◌*◌, ◌≤◌, ◌<◌}
use native.Mathlib.Nat.{add-zero, mul-suc}
use native.Mathlib.Omega.{arith}
use native.Mathlib.Numerals.{add-one}
use mathlib.Core.Path.{◌≡◌, refl, sym, ap, ap₂, ◌∙◌}
use mathlib.Core.Bool.{true}
use mathlib.Core.List.{List, [], ◌∷◌, ◌++◌, map, flat_map, append_assoc, Memᴰ}
use lib.IntN.{ℤ}
use lib.ListN.{length, take, drop, get_or, length-append, get_or-append}
use lib.Seq.{sets, length-sets, sets-eq, get_or-drop, drop-drop, drop-append_seam, drop_at, length-take-le, take-append-add}
use Rattle.rules.specs.Range.{up_from}
use Rattle.rules.specs.Card.{first_charge, charge_count, charge_accounts, IsCharge}
use Rattle.rules.specs.Amount.{amount_word, is_amount, base_amount}
use Rattle.rules.specs.Table.{most_actions, state_of, total_of}
use Rattle.rules.specs.Tree.{Line, tree_lines, account_figures, figures_of, balance_of, line_length, line_words, balance_length, balance_words, block_place, report_length, with_report}
use Rattle.rules.proofs.Laws.Ranges.{Within}
use Rattle.rules.proofs.Laws.Amounts.{amount_of_any, amount_in_any, amount_read_back}
use Rattle.listing.specs.Tree.{spaced_figures, action_line, balance_line, tree_text}
use Rattle.listing.specs.Report.{signed_from, line_figures, line_at_place, balance_at_place, lines_every, text_of_report}

-- ---- words from a place on

-- from this place on the words are these, and then others
abbrev Begins : List ℕ → ℕ → List ℕ → Type 0
Begins words at these = (rest : List ℕ) × (drop at words ≡ these ++ rest)

module _ (words : List ℕ) (at : ℕ) where
  word_of : (these : List ℕ) → Begins words at these → (k : ℕ) → k < length these → get_or words (at + k) 0 ≡ get_or these k 0
  word_of these here k h =
      sym (get_or-drop at words k 0)
      ∙ ap (λ (l : List ℕ). get_or l k 0) here.1
      ∙ get_or-append these here.0 0 k h

  first_of : (these : List ℕ) → Begins words at these → 0 < length these → get_or words at 0 ≡ get_or these 0 0
  first_of these here some = rw add-zero at (word_of these here 0 some)

  module _ (these more : List ℕ) (both : Begins words at (these ++ more)) where
    front : Begins words at these
    front = (more ++ both.0, both.1 ∙ append_assoc these more both.0)

    behind : Begins words (at + length these) more
    unfolding front
    behind = (
      both.0,
      sym (drop-drop (length these) at words)
          ∙ ap (λ (l : List ℕ). drop (length these) l) front.1
          ∙ drop-append_seam these (more ++ both.0),
    )

-- ---- figures

-- each of these is an amount
unfoldable AreAmounts : List ℤ → Type 0
AreAmounts [] = Unit
AreAmounts (z ∷ zs) = (is_amount z ≡ true) × AreAmounts zs

-- the words of amounts are read as the amounts
figures_text :
    (words : List ℕ) (at : ℕ) (figures : List ℤ) → AreAmounts figures → Begins words at (map amount_word figures)
    → signed_from words at (length figures) ≡ spaced_figures figures
unfolding AreAmounts signed_from spaced_figures
figures_text words at [] fit here = refl
figures_text words at (z ∷ zs) fit here =
    let others = rw add-one at (behind words at (amount_word z ∷ []) (map amount_word zs) here) in
    rw (
      first_of words at (map amount_word (z ∷ zs)) here (omega arith),
      amount_read_back z fit.0,
      figures_text words (suc at) zs fit.1 others,
    )

-- ---- line after line

-- Where the words of each x, as many as a step is long, give x's line, those of all of them give all lines.
module _ {A : Type 0} (step : ℕ) (words_of : A → List ℕ) (all_long : (x : A) → length (words_of x) ≡ step) where
  words_length : (xs : List A) → length (flat_map words_of xs) ≡ step * length xs
  unfolding flat_map
  words_length [] = omega arith
  words_length (x ∷ xs) =
      omega (
        arith,
        length-append (words_of x) (flat_map words_of xs),
        all_long x,
        words_length xs,
        mul-suc step (length xs),
      )

  lines_text :
      (words : List ℕ) (line : ℕ → List ℕ) (text : A → List ℕ) (xs : List A) (at : ℕ)
      → ((x : A) → Memᴰ x xs → (place : ℕ) → Begins words place (words_of x) → line place ≡ text x)
      → Begins words at (flat_map words_of xs)
      → lines_every step line at (length xs) ≡ flat_map text xs
  unfolding lines_every flat_map
  lines_text words line text [] at each here = refl
  lines_text words line text (x ∷ xs) at each here =
      ap₂ ◌++◌
      (each x (Memᴰ.head refl) at (front words at (words_of x) (flat_map words_of xs) here))
      (lines_text words line text xs (at + step)
      (λ y m. each y (Memᴰ.tail m))
      (rw (all_long x) at (behind words at (words_of x) (flat_map words_of xs) here)))

-- ---- an action's line

-- every total of action n is an amount
abbrev pub TotalsFit : List ℕ → ℕ → Type 0
TotalsFit w n = (k : ℕ) → IsCharge k → is_amount (total_of w n k) ≡ true

module _ (w : List ℕ) where
  -- own adds are amounts in any table
  run_amounts :
      (n a m : ℕ) → ((k : ℕ) → Within a m k → is_amount (total_of w n k) ≡ true)
      → AreAmounts (flat_map (account_figures w n) (up_from a m))
  unfolding AreAmounts flat_map up_from
  run_amounts n a zero fit = tt
  run_amounts n a (suc m) fit =
      (amount_of_any _, (fit a (omega arith), run_amounts n (suc a) m (λ k h. fit k (omega arith))))

  figures_amounts : (n : ℕ) → TotalsFit w n → AreAmounts (figures_of w n)
  unfolding figures_of charge_accounts
  figures_amounts n fit = run_amounts n first_charge charge_count (λ k h. fit k (omega arith))

  figures_length : (n : ℕ) → length (figures_of w n) ≡ line_figures
  unfolding figures_of charge_accounts flat_map up_from
  figures_length n = refl

  line_words_length : (line : Line) → length (line_words w line) ≡ line_length
  unfolding line_words figures_of charge_accounts flat_map up_from
  line_words_length line = refl

  line_text :
      (words : List ℕ) (line : Line) → TotalsFit w line.number → (at : ℕ) → Begins words at (line_words w line)
      → line_at_place words at ≡ action_line w line
  unfolding line_at_place action_line line_words
  line_text words line fit at here =
      let n = line.number in
      let head = line.depth ∷ n ∷ state_of w n ∷ [] in
      let figures = map amount_word (figures_of w n) in
      rw (
        first_of words at (head ++ figures) here (omega arith),
        word_of words at (head ++ figures) here 1 (omega arith),
        word_of words at (head ++ figures) here 2 (omega arith),
        ← figures_length n,
        figures_text words (at + 3) (figures_of w n) (figures_amounts n fit) (behind words at head figures here),
      )

-- ---- the last block's lines

module _ (w base opening : List ℕ) where
  -- all of them are read from words or cards
  balances_amounts : (k : ℕ) → AreAmounts (balance_of w base opening k)
  unfolding AreAmounts base_amount
  balances_amounts k = (amount_in_any _, (amount_of_any _, (amount_in_any _, tt)))

  balance_words_length : (k : ℕ) → length (balance_words w base opening k) ≡ balance_length
  unfolding balance_words
  balance_words_length k = refl

  balance_text :
      (words : List ℕ) (k at : ℕ) → Begins words at (balance_words w base opening k)
      → balance_at_place words at ≡ balance_line w base opening k
  unfolding balance_at_place balance_line balance_words
  balance_text words k at here =
      let figures = map amount_word (balance_of w base opening k) in
      rw (
        first_of words at (k ∷ figures) here (omega arith),
        figures_text words (at + 1) (balance_of w base opening k) (balances_amounts k)
            (behind words at (k ∷ []) figures here),
      )

-- ---- the report

-- a report is put into a buffer of its length, with no more lines than there is room for
module _ (buffer w base opening : List ℕ) (whole : length buffer ≡ report_length) (few : length (tree_lines w) ≤ most_actions) where
  -- the words of all lines, and those of the last block
  abbrev line_run : List ℕ
  line_run = flat_map (line_words w) (tree_lines w)

  abbrev block : List ℕ
  block = flat_map (balance_words w base opening) charge_accounts

  -- the buffer with the lines alone, and what stands behind the last block
  abbrev lined : List ℕ
  lined = sets buffer 0 line_run

  abbrev after : List ℕ
  after = drop (block_place + length block) lined

  -- what the buffer has behind the lines, and how much of it stays
  abbrev rest : List ℕ
  rest = drop (0 + length line_run) buffer

  abbrev gap : ℕ
  gap = block_place - length line_run

  line_run_fits : length line_run ≤ block_place
  line_run_fits = omega (arith, words_length line_length (line_words w) (line_words_length w) (tree_lines w))

  block_length : length block ≡ report_length - block_place
  unfolding flat_map charge_accounts up_from balance_words
  block_length = refl

  report_parts : with_report buffer w base opening ≡ take block_place lined ++ (block ++ after)
  unfolding with_report
  report_parts =
      sets-eq block lined block_place (omega (arith, block_length, length-sets buffer 0 line_run))
      ∙ append_assoc (take block_place lined) block after

  lines_in_front : take block_place lined ≡ line_run ++ take gap rest
  lines_in_front =
      let up_to : length line_run + gap ≡ block_place = omega (arith, line_run_fits) in
      rw (sets-eq line_run buffer 0 (omega (arith, line_run_fits))) (rw up_to at (take-append-add line_run rest gap))

  lines_begin : Begins (with_report buffer w base opening) 0 line_run
  lines_begin = (take gap rest ++ (block ++ after), rw (report_parts, lines_in_front, append_assoc))

  block_begins : Begins (with_report buffer w base opening) block_place block
  block_begins =
      let reach = length-take-le block_place lined (omega (arith, length-sets buffer 0 line_run)) in
      (after, rw report_parts (drop_at (take block_place lined) (block ++ after) block_place reach))

  -- where every total is an amount, the report's text is the tree's
  pub report_text :
      ((line : Line) → Memᴰ line (tree_lines w) → TotalsFit w line.number)
      → text_of_report (with_report buffer w base opening) (length (tree_lines w)) ≡ tree_text w base opening
  unfolding text_of_report tree_text charge_accounts up_from
  report_text totals =
      let words = with_report buffer w base opening in
      ap₂ ◌++◌
      (lines_text line_length (line_words w) (line_words_length w) words (line_at_place words) (action_line w) (tree_lines w) 0
      (λ line m. line_text w words line (totals line m))
      lines_begin)
      (lines_text balance_length (balance_words w base opening) (balance_words_length w base opening) words (balance_at_place words)
      (balance_line w base opening) charge_accounts block_place
      (λ k m. balance_text w base opening words k)
      block_begins)
