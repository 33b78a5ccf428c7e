-- RULES 3.4: what an action sees of a charge account, as one walk finds it. Assumes nothing.
use Rattle.std.specs.Prelude.{ℕ, cond, Some, None, List, ℤ}
use Rattle.rules.specs.Amount.{amount_word, is_amount}
use Rattle.rules.specs.Nearest.{moves_up, read_sum}
use Rattle.ancestry.specs.declared.charge.Seen.{Seen}

-- so many moves up, and a sum: its word where it is an amount
abbrev pub seen_from : ℕ → ℤ → Seen
seen_from moves sum = record { moves = moves; sum = cond (is_amount sum) (Some (amount_word sum)) None }

-- what action n sees of charge account k
abbrev pub seen_by : List ℕ → List ℕ → ℕ → ℕ → Seen
seen_by w base n k = seen_from (moves_up w n k) (read_sum w base n k)
