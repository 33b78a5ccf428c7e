-- The fault of a list: that of its first bad charge, and what holds of a list that has none. Assumes nothing.
use Rattle.std.proofs.Common.{◌≡◌, ℕ, zero, suc, ◌+◌, ◌-◌, ◌%◌, ◌<◌, ◌≤◌, Bool, true, false, cond, not, eqb, ltb, List, length, refl, ap, add-zero, zero-add, arith, ltb-false, ne_eqb, eqb-true}
use borrow.Author.Tests.{eqb-false}
use Rattle.std.specs.Prelude.{Result, Ok, Err, IsErrAnd}
use Rattle.rules.specs.declared.refusal.Refusal.{Refusal}
use Rattle.rules.specs.Refusal.{refusal_number, refusal_of}
use Rattle.rules.proofs.Laws.Refusals.{never_none}
use Rattle.rules.specs.Amount.{is_addable}
use Rattle.rules.proofs.Laws.Tests.{not_fails}
use Rattle.rules.proofs.Laws.Allowed.{not_given}
use Rattle.charges.specs.List.{charge_length, most_charges, list_length, charges_in, cents_charged, is_to_charge, charge_fault, charges_fault, list_fault, IsFaultless}

-- ---- of n charges those from the ith on

module _ (list : List ℕ) (i n : ℕ) where
  -- a bad charge's fault, passed up, is that of all
  pub bad_here :
      {A : Type 0} (answer : Result A Refusal) (fault : Refusal) → i < n → IsErrAnd answer (λ e. e ≡ fault) →
      refusal_number fault ≡ charge_fault list i → refusal_of answer ≡ charges_fault list i (n - i)
  unfolding charges_fault
  bad_here (Ok x) fault more passed asked = absurd passed
  bad_here (Err e) fault more passed asked =
      let left : n - i ≡ suc (n - suc i) = omega arith in
      rw (left, ← asked, ne_eqb (refusal_number fault) 0 (never_none fault)) (ap refusal_number passed)

  pub good_here : i < n → charge_fault list i ≡ 0 → charges_fault list i (n - i) ≡ charges_fault list (suc i) (n - suc i)
  unfolding charges_fault
  good_here more good =
      let left : n - i ≡ suc (n - suc i) = omega arith in
      rw (left, good)

  pub none_left : n ≤ i → charges_fault list i (n - i) ≡ 0
  unfolding charges_fault
  none_left done =
      let left : n - i ≡ 0 = omega arith in
      rw left

-- ---- a list without a fault

-- where no charge is bad, neither is the first, nor one behind it
first_good :
    (list : List ℕ) (i n : ℕ) → charges_fault list i (suc n) ≡ 0 → (charge_fault list i ≡ 0) × (charges_fault list (suc i) n ≡ 0)
unfolding charges_fault
first_good list i n = go (eqb (charge_fault list i) 0) refl
  where
    go : (b : Bool) → eqb (charge_fault list i) 0 ≡ b → cond b (charges_fault list (suc i) n) (charge_fault list i) ≡ 0
        → (charge_fault list i ≡ 0) × (charges_fault list (suc i) n ≡ 0)
    go true good none = (eqb-true (charge_fault list i) 0 good, none)
    go false bad none = absurd (eqb-false (charge_fault list i) 0 bad none)

each_good : (list : List ℕ) (i n k : ℕ) → charges_fault list i n ≡ 0 → k < n → charge_fault list (i + k) ≡ 0
each_good list i zero k none h = absurd (omega arith)
each_good list i (suc n) zero none h = rw (add-zero i) (first_good list i n none).0
each_good list i (suc n) (suc k) none h =
    let next : i + suc k ≡ suc i + k = omega arith in
    rw next (each_good list (suc i) n k (first_good list i n none).1 (omega arith))

-- its charges are few, and their cents small
pub record Good (list : List ℕ) : Type 0 where
  pub few : charges_in list ≤ most_charges
  pub small : (k : ℕ) → k < charges_in list → is_addable (cents_charged list k) ≡ true

small_cents : (list : List ℕ) (k : ℕ) → charge_fault list k ≡ 0 → is_addable (cents_charged list k) ≡ true
unfolding charge_fault
small_cents list k none₁ =
    let (other, none₂) = not_given (not (is_to_charge list k)) _ _ none₁ in
    let (large, none) = not_given (not (is_addable (cents_charged list k))) _ _ none₂ in
    (not_fails _).0 large

pub good : (list : List ℕ) → IsFaultless list → Good list
unfolding list_fault
good list whole =
    let (long, none₁) = not_given (ltb list_length (length list)) _ _ whole.faultless in
    let (cut, none) = not_given (not (eqb (length list % charge_length) 0)) _ _ none₁ in
    record {
      few = omega (arith, ltb-false list_length (length list) long);
      small = λ k h. small_cents list k (rw zero-add at (each_good list 0 (charges_in list) k none h));
    }
