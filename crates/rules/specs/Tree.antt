-- RULES 12: the tree of a table: what its actions added to the charge accounts, and what came up to each. Assumes nothing.
use Rattle.std.specs.Prelude.{ℕ, zero, suc, Bool, not, cond, ◌&&◌, ◌||◌, eqb, ℤ, length}
use mathlib.Core.List.{List, [], ◌∷◌, map, flat_map}
use Rattle.std.proofs.lemmas.List.Edits.{sets}
use Rattle.rules.specs.Range.{any, filter}
use Rattle.rules.specs.Card.{base_length, charge_accounts}
use Rattle.rules.specs.Amount.{amount_word, is_amount, base_amount}
use Rattle.rules.specs.Table.{most_actions, parent_of, state_of, own_adds, kept_sum, total_of, actions, is_child_of}
use Rattle.rules.specs.Walk.{climbs}
use Rattle.rules.specs.Sound.{sound}
use Rattle.rules.specs.Cause.{Cause, first_cause, store_length_cause, is_store_length_wrong, unsound_cause, sum_cause}

-- ---- RULES 12.1: children

-- those of p, which is an action or 0 for the store, by rising number
unfoldable pub children : List ℕ → ℕ → List ℕ
children w p = filter (is_child_of w p) (actions w)

-- ---- RULES 12.3: lines

-- an action, and how deep it lies
pub record Line : Type 0 where
  pub depth : ℕ
  pub number : ℕ

-- the lines under p, whose children lie so deep, from so many levels: each child's line, and directly below it those under it
unfoldable pub lines_within : ℕ → List ℕ → ℕ → ℕ → List Line
lines_within zero w depth p = []
lines_within (suc levels) w depth p =
    flat_map (λ m. record { depth = depth; number = m } ∷ lines_within levels w (suc depth) m) (children w p)

-- the report's: one for each action that is shown (proofs/Tree/Lines.antt)
unfoldable pub tree_lines : List ℕ → List Line
tree_lines w = lines_within most_actions w 0 0

-- action n is shown: it and the parents above it are held, all the way up to the store
unfoldable pub is_shown : List ℕ → ℕ → Bool
is_shown w n = climbs (parent_of w) most_actions n

-- what a line says of charge account k, and of all of them
abbrev pub account_figures : List ℕ → ℕ → ℕ → List ℤ
account_figures w n k = own_adds w n k ∷ total_of w n k ∷ []

unfoldable pub figures_of : List ℕ → ℕ → List ℤ
figures_of w n = flat_map (account_figures w n) charge_accounts

-- RULES 12.4: what the last block says of charge account k: opening, what the committed topactions brought, closing
abbrev pub balance_of : List ℕ → List ℕ → List ℕ → ℕ → List ℤ
balance_of w base opening k = base_amount opening k ∷ kept_sum w 0 k ∷ base_amount base k ∷ []

-- ---- RULES 12.5: causes

-- a figure for charge account k is no amount: the total of an action that is shown, as every other figure is read from a word
unfoldable pub is_figure_outside : List ℕ → ℕ → Bool
is_figure_outside w k = any (λ n. is_shown w n && not (is_amount (total_of w n k))) (actions w)

unfoldable pub tree_causes : List ℕ → List ℕ → List ℕ → List ℕ → List Cause
tree_causes w base shadow opening =
    record { number = store_length_cause; applies = is_store_length_wrong base shadow || not (eqb (length opening) base_length) }
    ∷ record { number = unsound_cause; applies = not (sound w) }
    ∷ record { number = sum_cause; applies = any (is_figure_outside w) charge_accounts }
    ∷ []

unfoldable pub tree_cause : List ℕ → List ℕ → List ℕ → List ℕ → ℕ
tree_cause w base shadow opening = first_cause (tree_causes w base shadow opening)

-- ---- RULES 12.6: as words

-- a line's: depth, number, state, figures
abbrev pub line_length : ℕ
line_length = 19

unfoldable pub line_words : List ℕ → Line → List ℕ
line_words w line = line.depth ∷ line.number ∷ state_of w line.number ∷ map amount_word (figures_of w line.number)

-- those of the last block's line for charge account k: the account, opening, sum, closing
abbrev pub balance_length : ℕ
balance_length = 4

unfoldable pub balance_words : List ℕ → List ℕ → List ℕ → ℕ → List ℕ
balance_words w base opening k = k ∷ map amount_word (balance_of w base opening k)

-- where the last block begins, and the words of a report
abbrev pub block_place : ℕ
block_place = 1216

abbrev pub report_length : ℕ
report_length = 1248

-- a buffer with the lines put at its front and the last block at its place: no other word of it changes
unfoldable pub with_report : List ℕ → List ℕ → List ℕ → List ℕ → List ℕ
with_report buffer w base opening =
    sets (sets buffer 0 (flat_map (line_words w) (tree_lines w))) block_place (flat_map (balance_words w base opening) charge_accounts)

-- what the call gives back: the cause, how many lines there are, and the buffer
pub record Report : Type 0 where
  pub cause : ℕ
  pub lines : ℕ
  pub words : List ℕ

abbrev pub report_of : ℕ → ℕ → List ℕ → Report
report_of cause lines words = record { cause = cause; lines = lines; words = words }

unfoldable pub report : List ℕ → List ℕ → List ℕ → List ℕ → List ℕ → Report
report w base shadow opening buffer =
    let cause = tree_cause w base shadow opening in
    cond (eqb cause 0) (report_of cause (length (tree_lines w)) (with_report buffer w base opening)) (report_of cause 0 buffer)
