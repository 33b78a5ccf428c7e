-- RULES 15.2: the order of short days. Assumes nothing.
use Rattle.std.specs.Prelude.{Bool, false, ◌&&◌, ◌||◌, List, [], ◌∷◌, eqb, ltb}
use Rattle.rules.specs.Event.{Event}

-- e comes first of the two: by the code or, where the codes are the same, by the number
abbrev pub is_lower : Event → Event → Bool
is_lower e f = ltb e.code f.code || eqb e.code f.code && ltb e.number f.number

-- neither does
abbrev pub is_alike : Event → Event → Bool
is_alike e f = eqb e.code f.code && eqb e.number f.number

-- so the first of two lists does: by the first events that are not alike
unfoldable pub comes_first : List Event → List Event → Bool
comes_first [] fs = false
comes_first (e ∷ es) [] = false
comes_first (e ∷ es) (f ∷ fs) = is_lower e f || is_alike e f && comes_first es fs
