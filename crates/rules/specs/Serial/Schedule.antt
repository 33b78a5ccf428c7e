-- RULES 6.4: the serial schedule, which is a block written out as operations one after the other. Assumes nothing.
use Rattle.std.specs.Prelude.{ℕ, List, [], ◌∷◌, ◌++◌}
use Rattle.rules.specs.Serial.Block.{Block, empty, read, write, child}

pub data Operation (E : Type 0) : Type 0 where
  -- an action's block begins
  begins : (who : ℕ) → Operation E
  reads : (place account : ℕ) → Operation E
  writes : (place account : ℕ) (effect : E) → Operation E
  -- the action whose block began last ends
  ends : Operation E

unfoldable pub schedule_of : {E : Type 0} → Block E → List (Operation E)
schedule_of empty = []
schedule_of (read b i k) = schedule_of b ++ (reads i k ∷ [])
schedule_of (write b i k f) = schedule_of b ++ (writes i k f ∷ [])
schedule_of (child b i who d) = schedule_of b ++ (begins who ∷ (schedule_of d ++ (ends ∷ [])))
