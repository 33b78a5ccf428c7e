-- A new table carries the sums, and so does what every list of events leaves. Assumes nothing.
use Prim.Native.Nat.{ℕ}
use native.Mathlib.Omega.{arith}
use mathlib.Core.Path.{◌≡◌, refl, sym, ap, ◌∙◌}
use mathlib.Core.List.{List, [], ◌∷◌}
use lib.IntN.{pos, ◌+ℤ◌, +ℤ_idr}
use Rattle.rules.specs.Card.{IsCharge}
use Rattle.rules.specs.Amount.{amount_of, base_amount}
use Rattle.rules.specs.Table.{new_table_under, kept_field, kept_sum}
use Rattle.rules.specs.Sound.{IsGiven}
use Rattle.rules.specs.Event.{Event}
use Rattle.rules.specs.Ledger.{Ledger}
use Rattle.rules.specs.Step.{step}
use Rattle.rules.specs.Run.{run}
use Rattle.rules.specs.Serial.Demand.{new_over}
use Rattle.rules.proofs.Laws.Amounts.{amount_zero}
use Rattle.rules.proofs.Laws.NewTables.{new_head, new_highest}
use Rattle.rules.proofs.Demand.Proper.{Proper, step_keeps_proper}
use Rattle.rules.proofs.Demand.Starts.{start_givable}
use Rattle.rules.proofs.Tree.Carried.{Carried}
use Rattle.rules.proofs.Tree.Quiet.{calm_quiet, quiet_carried}
use Rattle.rules.proofs.Tree.ByChange.{step_by_change}
use Rattle.rules.proofs.Tree.Starting.{start_carried}
use Rattle.rules.proofs.Tree.Committing.{commit_carried}

-- a ledger carries the sums for charge account k, over an opening store
abbrev pub CarriedIn : ℕ → List ℕ → Ledger → Type 0
CarriedIn k opening s = Carried k (base_amount opening k) s.table (base_amount s.base k)

-- a new table has no action, and nothing is kept of any topaction
new_nobody : (r n : ℕ) → IsGiven (new_table_under r) n → ⊥
new_nobody r n h = omega (arith, h, new_highest r)

new_kept : (r : ℕ) {k : ℕ} → IsCharge k → kept_sum (new_table_under r) 0 k ≡ pos 0
new_kept r {k} charge = ap amount_of (new_head r (kept_field k) (omega arith) (λ z. omega arith)) ∙ amount_zero

pub new_carried : (r : ℕ) (base shadow : List ℕ) {k : ℕ} → IsCharge k → CarriedIn k base (new_over r base shadow)
new_carried r base shadow {k} charge =
    record {
      sums = λ n h. absurd (new_nobody r n h);
      closing = sym (ap (λ z. base_amount base k +ℤ z) (new_kept r charge) ∙ +ℤ_idr (base_amount base k));
    }

module _ {k : ℕ} (charge : IsCharge k) (opening : List ℕ) where
  step_carried : (s : Ledger) (e : Event) → Proper s → CarriedIn k opening s → CarriedIn k opening (step s e).after
  step_carried s e proper was =
      step_by_change charge (CarriedIn k opening)
      (λ t v shadow calm. quiet_carried (calm_quiet calm))
      (λ t here n may fits. commit_carried here may refl fits k charge)
      s e proper was
      (λ permitted. start_carried proper.sound _ e.number k charge (start_givable proper permitted) was)
      (λ v quiet. quiet_carried quiet was)

  pub run_carried : (s : Ledger) (es : List Event) → Proper s → CarriedIn k opening s → CarriedIn k opening (run s es).after
  unfolding run
  run_carried s [] proper was = was
  run_carried s (e ∷ es) proper was =
      run_carried (step s e).after es (step_keeps_proper s e proper) (step_carried s e proper was)
