-- The tree as text, from a report as it lies in words. Assumes nothing.
use Rattle.std.specs.Prelude.{ℕ, zero, suc, ◌+◌, ◌≤◌, ◌≡◌, List, [], ◌∷◌, ◌++◌, length, get_or}
use Rattle.rules.specs.Amount.{amount_of}
use Rattle.rules.specs.Card.{charge_count}
use Rattle.rules.specs.Table.{most_actions}
use Rattle.rules.specs.Tree.{line_length, balance_length, block_place, report_length}
use Rattle.text.specs.Text.{space, line_feed, decimal, spaced, signed}
use Rattle.listing.specs.Tree.{state_word}

-- a report's words, with so many lines at their front
abbrev pub HasLines : List ℕ → ℕ → Type 0
HasLines words lines = (length words ≡ report_length) × (lines ≤ most_actions)

-- the n words from a place on, as signed numbers, each with a space before it
unfoldable pub signed_from : List ℕ → ℕ → ℕ → List ℕ
signed_from words at zero = []
signed_from words at (suc n) = (space ∷ signed (amount_of (get_or words at 0))) ++ signed_from words (suc at) n

-- how many figures an action's line has, and a line of the last block
abbrev pub line_figures : ℕ
line_figures = 16

abbrev pub balance_figures : ℕ
balance_figures = 3

-- the action's line whose words begin at a place
unfoldable pub line_at_place : List ℕ → ℕ → List ℕ
line_at_place words at =
    decimal (get_or words at 0) ++ spaced (get_or words (at + 1) 0 ∷ []) ++ (space ∷ state_word (get_or words (at + 2) 0))
    ++ signed_from words (at + 3) line_figures ++ (line_feed ∷ [])

-- the last block's line whose words begin at a place
unfoldable pub balance_at_place : List ℕ → ℕ → List ℕ
balance_at_place words at = decimal (get_or words at 0) ++ signed_from words (at + 1) balance_figures ++ (line_feed ∷ [])

-- n lines, the first of words that begin at a place, each next one so many words further on
unfoldable pub lines_every : ℕ → (ℕ → List ℕ) → ℕ → ℕ → List ℕ
lines_every step line at zero = []
lines_every step line at (suc n) = line at ++ lines_every step line (at + step) n

-- the tree's text: the lines at the front, and the last block
unfoldable pub text_of_report : List ℕ → ℕ → List ℕ
text_of_report words lines =
    lines_every line_length (line_at_place words) 0 lines ++ lines_every balance_length (balance_at_place words) block_place charge_count
