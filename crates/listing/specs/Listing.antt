-- RULES 10: the lines of a listing, as ASCII. Assumes nothing.
use Rattle.std.specs.Prelude.{ℕ, suc, Bool, List, [], ◌∷◌, ◌++◌, eqb, length, get_or, ℤ}
use Rattle.std.proofs.Math.Option.{Option, none, some}
use Rattle.rules.specs.declared.Answer.{Answer}
use Rattle.rules.specs.Kind.{top_kind, sub_kind}
use Rattle.rules.specs.Range.{filter}
use Rattle.rules.specs.Table.{counter}
use Rattle.rules.specs.Answer.{Said, said}
use Rattle.rules.specs.Encoding.{started_kind, words_of}
use Rattle.text.specs.Text.{space, line_feed, decimal, spaced, signed}

-- the letters of `end`
abbrev pub end_word : List ℕ
end_word = 101 ∷ 110 ∷ 100 ∷ []

-- a sum with a space before it, nothing where there is none
unfoldable pub spaced_sum : Option ℤ → List ℕ
spaced_sum none = []
spaced_sum (some z) = space ∷ signed z

-- an answer's word, its numbers and its sum
abbrev pub said_text : Said → List ℕ
said_text s = s.word ++ spaced s.numbers ++ spaced_sum s.sum

-- RULES 10.2: the line of an event
abbrev pub answer_line : ℕ → Answer → List ℕ
answer_line place a = decimal place ++ (space ∷ said_text (said a)) ++ (line_feed ∷ [])

-- the lines of the answers from a place on
unfoldable pub answer_lines : ℕ → List Answer → List ℕ
answer_lines place [] = []
answer_lines place (a ∷ answers) = answer_line place a ++ answer_lines (suc place) answers

-- an answer is `started`, by its kind
abbrev pub is_started : Answer → Bool
is_started a = eqb (get_or (words_of a) 0 0) started_kind

-- how many events were answered `started`: no table tells it, as numbers are given again
unfoldable pub starts_in : List Answer → ℕ
starts_in answers = length (filter is_started answers)

-- RULES 10.3: the last line, and that of a day's answers and the table after them
abbrev pub end_line : ℕ → ℕ → ℕ → List ℕ
end_line starts top sub = end_word ++ spaced (starts ∷ top ∷ sub ∷ []) ++ (line_feed ∷ [])

abbrev pub last_line : List Answer → List ℕ → List ℕ
last_line answers w = end_line (starts_in answers) (counter w top_kind) (counter w sub_kind)
