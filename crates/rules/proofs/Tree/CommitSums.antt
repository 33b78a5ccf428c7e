-- A commit adds the pending sum of the one that commits to its parent's or, of a topaction, to the base amount. Assumes nothing.
use Prim.Native.Nat.{ℕ}
use mathlib.Core.Path.{◌≡◌, sym, ap, ◌∙◌}
use mathlib.Core.Logic.{◌≢◌}
use mathlib.Core.Bool.{true, false}
use lib.IntN.{ℤ, pos, ◌+ℤ◌, +ℤ_idr}
use Rattle.std.specs.Prelude.{None}
use Rattle.rules.specs.Card.{IsCharge}
use Rattle.rules.specs.Amount.{amount_of, amount_in, base_amount}
use Rattle.rules.specs.Table.{parent_of, has_written, pending_sum}
use Rattle.rules.specs.Ledger.{Ledger}
use Rattle.rules.specs.Cause.{is_commit_outside}
use Rattle.rules.specs.Commit.{committed_under}
use Rattle.rules.proofs.Laws.Tests.{cond_holds}
use Rattle.rules.proofs.Laws.Amounts.{amount_zero, amount_read_back, amount_put}
use Rattle.rules.proofs.Laws.Permitted.{Committable}
use Rattle.rules.proofs.Copies.Turns.{settled_card}
use Rattle.rules.proofs.Serial.Settling.{is_charge_true}
use Rattle.rules.proofs.Demand.Proper.{Proper}
use Rattle.rules.proofs.Demand.CommitCards.{commit_base_card}
use Rattle.rules.proofs.Demand.CommitLaid.{base_sum_fits, parent_pending, parent_sum_fits}

module _
    {s : Ledger} (proper : Proper s) {n p : ℕ} (judged : Committable s.table n) (under : parent_of s.table n ≡ p)
    (fits : is_commit_outside s.table s.base n None ≡ false) (k : ℕ) (charge : IsCharge k) where
  -- without a write there is nothing to add
  unwritten_nothing : has_written s.table n k ≡ false → pending_sum s.table n k ≡ pos 0
  unwritten_nothing unwritten = ap amount_of (proper.sound.pendings n k judged.own charge unwritten) ∙ amount_zero

  nothing_added : (z : ℤ) → has_written s.table n k ≡ false → z ≡ z +ℤ pending_sum s.table n k
  nothing_added z unwritten = sym (ap (λ y. z +ℤ y) (unwritten_nothing unwritten) ∙ +ℤ_idr z)

  pub parent_grows :
      p ≢ 0 → pending_sum (committed_under s n p).table p k ≡ pending_sum s.table p k +ℤ pending_sum s.table n k
  parent_grows sub =
      ap amount_of (parent_pending proper judged under fits k sub charge)
      ∙ cond_holds (λ x. amount_of x ≡ pending_sum s.table p k +ℤ pending_sum s.table n k) (has_written s.table n k)
      (λ written. amount_read_back _ (parent_sum_fits proper judged under fits k sub charge written))
      (nothing_added (pending_sum s.table p k))

  settled_amount :
      p ≡ 0 → has_written s.table n k ≡ true →
      amount_in (settled_card s n k) ≡ base_amount s.base k +ℤ pending_sum s.table n k
  unfolding settled_card
  settled_amount top written =
      rw (is_charge_true charge) (amount_put _ _ (base_sum_fits proper judged under fits k top charge written))

  pub base_grows :
      p ≡ 0 → base_amount (committed_under s n p).base k ≡ base_amount s.base k +ℤ pending_sum s.table n k
  unfolding base_amount
  base_grows top =
      ap amount_in (commit_base_card proper judged under top k charge.1)
      ∙ cond_holds (λ c. amount_in c ≡ base_amount s.base k +ℤ pending_sum s.table n k) (has_written s.table n k)
      (settled_amount top)
      (nothing_added (base_amount s.base k))
