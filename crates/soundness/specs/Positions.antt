-- RULES 1.10: the positions of a queue, and whether a number stands there again. Assumes nothing.
use Rattle.std.specs.Prelude.{ℕ, ◌+◌, ◌-◌, Bool, List, eqb}
use Rattle.rules.specs.Range.{up_from, any}
use Rattle.rules.specs.Queue.{queue_length, entry_number}

-- the first position behind queue h's tail, and the positions from i to the tail
abbrev pub behind_tail : List ℕ → ℕ → ℕ
behind_tail w h = queue_length w h + 1

abbrev pub positions_from : List ℕ → ℕ → ℕ → List ℕ
positions_from w h i = up_from i (behind_tail w h - i)

-- the number at position i stands at one of those from j on
abbrev pub stands_from : List ℕ → ℕ → ℕ → ℕ → Bool
stands_from w h i j = any (λ m. eqb (entry_number w h i) (entry_number w h m)) (positions_from w h j)
