-- RULES 12.8: the tree as lines of text, in ASCII. Assumes nothing.
use Rattle.std.specs.Prelude.{ℕ, cond, eqb, ℤ}
use mathlib.Core.List.{List, [], ◌∷◌, ◌++◌, flat_map}
use Rattle.rules.specs.declared.Answer.TheVariants.{Committed, Aborted}
use Rattle.rules.specs.Card.{charge_accounts}
use Rattle.rules.specs.Table.{live, committed, state_of}
use Rattle.rules.specs.Answer.{said}
use Rattle.rules.specs.Tree.{Line, tree_lines, figures_of, balance_of}
use Rattle.text.specs.Text.{space, line_feed, decimal, spaced, signed}

-- the letters of `live`
abbrev pub live_word : List ℕ
live_word = 108 ∷ 105 ∷ 118 ∷ 101 ∷ []

-- the word of a state; the other two are those of the answers
unfoldable pub state_word : ℕ → List ℕ
state_word state = cond (eqb state live) live_word (cond (eqb state committed) (said (Committed 0)).word (said (Aborted 0 0)).word)

-- each figure with a space before it
unfoldable pub spaced_figures : List ℤ → List ℕ
spaced_figures [] = []
spaced_figures (z ∷ zs) = (space ∷ signed z) ++ spaced_figures zs

-- an action's line
unfoldable pub action_line : List ℕ → Line → List ℕ
action_line w line =
    decimal line.depth ++ spaced (line.number ∷ []) ++ (space ∷ state_word (state_of w line.number))
    ++ spaced_figures (figures_of w line.number) ++ (line_feed ∷ [])

-- the last block's line for charge account k
unfoldable pub balance_line : List ℕ → List ℕ → List ℕ → ℕ → List ℕ
balance_line w base opening k = decimal k ++ spaced_figures (balance_of w base opening k) ++ (line_feed ∷ [])

-- all lines
unfoldable pub tree_text : List ℕ → List ℕ → List ℕ → List ℕ
tree_text w base opening = flat_map (action_line w) (tree_lines w) ++ flat_map (balance_line w base opening) charge_accounts
