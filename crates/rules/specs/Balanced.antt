-- RULES 12.7: opening and sum make closing, for every list of events. Assumes nothing.
use Rattle.std.specs.Prelude.{ℕ, ◌≡◌, List, ◌+ℤ◌}
use Rattle.rules.specs.Card.{IsCharge}
use Rattle.rules.specs.Amount.{base_amount}
use Rattle.rules.specs.Table.{pending_sum, kept_sum, total_of}
use Rattle.rules.specs.Sound.{IsGiven}
use Rattle.rules.specs.Event.{Event}
use Rattle.rules.specs.Ledger.{Ledger}
use Rattle.rules.specs.Run.{run}
use Rattle.rules.specs.Tree.{tree_cause}
use Rattle.rules.specs.Serial.Demand.{new_over}

-- the ledger after the list S = es, given to a new table under rule r over the stores base and shadow
abbrev pub ledger_after : ℕ → List ℕ → List ℕ → List Event → Ledger
ledger_after r base shadow es = (run (new_over r base shadow) es).after

-- What is claimed of it.
pub record Balanced (r : ℕ) (base shadow : List ℕ) (es : List Event) : Type 0 where
  -- each action's total is its pending sum, whatever its state
  pub totals :
      (n k : ℕ) → IsGiven (ledger_after r base shadow es).table n → IsCharge k →
      pending_sum (ledger_after r base shadow es).table n k ≡ total_of (ledger_after r base shadow es).table n k
  -- opening and sum make closing
  pub closes :
      (k : ℕ) → IsCharge k →
      base_amount (ledger_after r base shadow es).base k
      ≡ base_amount base k +ℤ kept_sum (ledger_after r base shadow es).table 0 k
  -- the report that has base for its opening store is not refused
  pub reported : let s = ledger_after r base shadow es in tree_cause s.table s.base s.shadow base ≡ 0
