-- RULES 6.7: what a charge account holds after S is what it held before and all that the actions in R have added to it.
-- Assumes nothing.
use Rattle.std.specs.Prelude.{ℕ, ◌≡◌, cond, List, [], ◌∷◌, eqb, ℤ, pos, ◌+ℤ◌}
use Rattle.std.proofs.Math.Option.{Option, none, some}
use Rattle.rules.specs.Card.{IsCharge}
use Rattle.rules.specs.Amount.{base_amount}
use Rattle.rules.specs.Event.{Event}
use Rattle.rules.specs.Run.{run}
use Rattle.rules.specs.Serial.Effect.{Effect, nothing, puts, adds}
use Rattle.rules.specs.Serial.Reach.{Act, acts_of_r}
use Rattle.rules.specs.Serial.Demand.{new_over, told_of}

-- what an act adds to the account that it is on
unfoldable pub added_by : Option Effect → ℤ
added_by none = pos 0
added_by (some nothing) = pos 0
added_by (some (puts card)) = pos 0
added_by (some (adds sum)) = sum

-- what these acts add to account k, all together
unfoldable pub added_to : ℕ → List Act → ℤ
added_to k [] = pos 0
added_to k (x ∷ xs) =
    let later = added_to k xs in
    cond (eqb x.account k) (added_by x.effect +ℤ later) later

-- What is claimed of the list S = es, given to a new table under rule r over the stores base and shadow.
pub record Conserved (r : ℕ) (base shadow : List ℕ) (es : List Event) : Type 0 where
  pub conserves :
      (k : ℕ) → IsCharge k →
      base_amount (run (new_over r base shadow) es).after.base k
      ≡ base_amount base k +ℤ added_to k (acts_of_r 0 (λ n. 0) es (told_of r base shadow es))
