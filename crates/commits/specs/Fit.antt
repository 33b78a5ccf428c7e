-- What the parts of a commit ask of their callers. Assumes nothing.
use Rattle.std.specs.Prelude.{ℕ, ◌≤◌, ◌≡◌, true, List, ◌+ℤ◌}
use Rattle.rules.specs.Card.{IsCharge}
use Rattle.rules.specs.Amount.{is_amount}
use Rattle.rules.specs.Table.{most_actions, has_written, pending_sum, kept_after}
use Rattle.rules.specs.Held.{held_sum}

-- RULES 4.8: the number of the store or of an action, either of which holds what is copied to it
abbrev pub IsHolder : ℕ → Type 0
IsHolder p = p ≤ most_actions

-- RULES 8.4: what p holds for charge account k and n's pending sum make an amount
abbrev pub MakesAmount : List ℕ → List ℕ → ℕ → ℕ → ℕ → Type 0
MakesAmount w base n p k = is_amount (held_sum w base p k +ℤ pending_sum w n k) ≡ true

-- RULES 8.4: they do so where n's commit under p adds them up: where k is a charge account and n has written it
abbrev pub SumFits : List ℕ → List ℕ → ℕ → ℕ → ℕ → Type 0
SumFits w base n p k = IsCharge k → has_written w n k ≡ true → MakesAmount w base n p k

-- RULES 8.4: the same of every account
abbrev pub SumsFit : List ℕ → List ℕ → ℕ → ℕ → Type 0
SumsFit w base n p = (k : ℕ) → SumFits w base n p k

-- RULES 8.4: what is kept in row p for charge account k is an amount once n's total is added
abbrev pub KeepsAmount : List ℕ → ℕ → ℕ → ℕ → Type 0
KeepsAmount w n p k = is_amount (kept_after w n p k) ≡ true

-- RULES 8.4: the same of every charge account
abbrev pub KeptFit : List ℕ → ℕ → ℕ → Type 0
KeptFit w n p = (k : ℕ) → IsCharge k → KeepsAmount w n p k
