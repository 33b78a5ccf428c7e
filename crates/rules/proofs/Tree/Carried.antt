-- What every event keeps of a charge account: each action's pending sum is its total, which is its own adds and what is kept of
-- its committed children, and the base amount is the opening amount and what is kept of the committed topactions.
-- Assumes nothing.
use Prim.Native.Nat.{ℕ}
use mathlib.Core.Path.{◌≡◌}
use mathlib.Core.List.{List}
use lib.IntN.{ℤ, ◌+ℤ◌}
use Rattle.rules.specs.Table.{pending_sum, kept_sum, total_of}
use Rattle.rules.specs.Sound.{IsGiven}

-- opening and now are amounts of charge account k in the base store
pub record Carried (k : ℕ) (opening : ℤ) (w : List ℕ) (now : ℤ) : Type 0 where
  pub sums : (n : ℕ) → IsGiven w n → pending_sum w n k ≡ total_of w n k
  pub closing : now ≡ opening +ℤ kept_sum w 0 k
