-- RULES 12.3 and 12.6: the lines of an action and of a parent's children, and lines put into a report. Assumes nothing.
use Rattle.std.specs.Prelude.{ℕ, suc, ◌+◌, ◌-◌, ◌*◌, ◌≤◌, ◌≡◌, length}
use mathlib.Core.List.{List, ◌∷◌, flat_map}
use Rattle.std.proofs.lemmas.List.Edits.{sets}
use Rattle.rules.specs.Range.{up_from, filter}
use Rattle.rules.specs.Table.{most_actions, highest, is_child_of}
use Rattle.rules.specs.Tree.{Line, lines_within, line_length, line_words, block_place, report_length}

abbrev pub line_at_depth : ℕ → ℕ → Line
line_at_depth depth n = record { depth = depth; number = n }

-- n's line, and those under it from so many levels
unfoldable pub action_lines : ℕ → List ℕ → ℕ → ℕ → List Line
action_lines levels w depth n = line_at_depth depth n ∷ lines_within levels w (suc depth) n

-- p's children from i on, and the lines of all of them; from 1 on they are those under p (proofs/Lining.antt)
unfoldable pub children_from : List ℕ → ℕ → ℕ → List ℕ
children_from w p i = filter (is_child_of w p) (up_from i (highest w + 1 - i))

unfoldable pub lines_from : ℕ → List ℕ → ℕ → ℕ → ℕ → List Line
lines_from levels w depth p i = flat_map (action_lines levels w depth) (children_from w p i)

-- an action that lies so deep has so many levels below it at most
abbrev pub HasLevels : ℕ → ℕ → Type 0
HasLevels depth levels = depth + levels ≤ most_actions

-- where the line goes before which so many stand
abbrev pub line_place : ℕ → ℕ
line_place before = line_length * before

-- these lines, put behind so many others, end before the last block
pub record HasLineRoom (words : List ℕ) (before : ℕ) (lines : List Line) : Type 0 where
  pub whole : length words ≡ report_length
  pub room : line_place (before + length lines) ≤ block_place

-- these lines were put behind so many others, and so many stand there then
pub record IsLined (w words : List ℕ) (before : ℕ) (lines : List Line) (put : List ℕ) (after : ℕ) : Type 0 where
  pub counted : after ≡ before + length lines
  pub leaves : put ≡ sets words (line_place before) (flat_map (line_words w) lines)
