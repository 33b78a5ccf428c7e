-- The number that a start gives, if there is one. Assumes nothing.
use Rattle.std.specs.Prelude.{ℕ, cond, Option, Some, None, List, eqb}
use Rattle.rules.specs.Free.{next_number}

-- the next number; none where that is 0, since actions are numbered from 1
abbrev pub number_left : List ℕ → Option ℕ
number_left w = cond (eqb (next_number w) 0) None (Some (next_number w))
