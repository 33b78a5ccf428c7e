-- RULES 12.7: opening and sum make closing. Assumes nothing.
use Prim.Native.Nat.{ℕ}
use mathlib.Core.Path.{◌≡◌}
use mathlib.Core.List.{List}
use lib.ListN.{length}
use Rattle.rules.specs.Card.{base_length, shadow_length, IsCharge}
use Rattle.rules.specs.Table.{pending_word, pending_sum, total_of}
use Rattle.rules.specs.Sound.{IsGiven}
use Rattle.rules.specs.Event.{Event}
use Rattle.rules.specs.Ledger.{Ledger}
use Rattle.rules.specs.Serial.Demand.{new_over}
use Rattle.rules.specs.Balanced.{ledger_after, Balanced}
use Rattle.rules.proofs.Laws.Amounts.{amount_of_any}
use Rattle.rules.proofs.Demand.Proper.{Proper, new_proper, run_keeps_proper}
use Rattle.rules.proofs.Tree.Kept.{CarriedIn, new_carried, run_carried}
use Rattle.rules.proofs.Tree.NotRefused.{not_refused}

module _
    (r : ℕ) (base shadow : List ℕ) (base_fits : length base ≡ base_length) (shadow_fits : length shadow ≡ shadow_length)
    (es : List Event) where
  abbrev after : Ledger
  after = ledger_after r base shadow es

  new : Proper (new_over r base shadow)
  new = new_proper r base shadow base_fits shadow_fits

  carried_after : {k : ℕ} → IsCharge k → CarriedIn k base after
  carried_after charge = run_carried charge base (new_over r base shadow) es new (new_carried r base shadow charge)

  totals : (n k : ℕ) → IsGiven after.table n → IsCharge k → pending_sum after.table n k ≡ total_of after.table n k
  totals n k known charge = (carried_after charge).sums n known

  pub balanced : Balanced r base shadow es
  balanced =
      record {
        totals = totals;
        closes = λ k charge. (carried_after charge).closing;
        reported =
            not_refused after base (run_keeps_proper (new_over r base shadow) es new) base_fits
            (λ n k known charge. rw (← totals n k known charge) (amount_of_any (pending_word after.table n k)));
      }
