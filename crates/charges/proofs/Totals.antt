-- The running record of an account in a list without a fault: its cents stay small, so that every sum of them fits, and its old
-- total is no NaN. Assumes nothing.
use Rattle.std.proofs.Common.{◌≡◌, ℕ, zero, suc, ◌+◌, ◌*◌, ◌<◌, ◌≤◌, true, false, eqb, List, ℤ, ◌+ℤ◌, refl, arith}
use lib.Ieee.{is_nan}
use Rattle.rules.specs.Amount.{most_added, is_addable}
use Rattle.rules.proofs.Laws.Tests.{cond_holds}
use Rattle.rules.proofs.Laws.Integers.{up, dn, up_or_dn, sum_parts}
use Rattle.rules.proofs.Laws.Amounts.{amount_holds, addable_holds}
use Rattle.charges.specs.declared.running.Running.{Running}
use Rattle.charges.specs.List.{charges_in, account_charged, cents_charged}
use Rattle.charges.specs.Running.{uncharged, charged_of, SumFits, charged_by, running_after, running_of, IsNumber}
use Rattle.charges.proofs.Faults.{Good}
use Rattle.charges.proofs.Numbers.{added_finite, sum_number}

-- what n charges can leave
pub record Kept (n : ℕ) (r : Running) : Type 0 where
  pub bounded : up r.cents + dn r.cents ≤ most_added * n
  pub number : is_nan r.old ≡ false

start_kept : Kept 0 uncharged
unfolding up dn is_nan
start_kept = record { bounded = omega arith; number = refl }

-- a sum of two integers is no larger than both
sum_bound : (y z : ℤ) → up (y +ℤ z) + dn (y +ℤ z) ≤ up y + dn y + (up z + dn z)
sum_bound y z = omega (arith, sum_parts y z, up_or_dn (y +ℤ z))

charge_kept : (n : ℕ) (r : Running) (c : ℤ) → is_addable c ≡ true → Kept n r → Kept (suc n) (charged_of r c)
unfolding charged_of
charge_kept n r c small kept =
    record {
      bounded = omega (arith, sum_bound r.cents c, (addable_holds c).0 small, kept.bounded);
      number = sum_number r.old _ kept.number (added_finite c small);
    }

longer_kept : (n : ℕ) (r : Running) → Kept n r → Kept (suc n) r
longer_kept n r kept = record { bounded = omega (arith, kept.bounded); number = kept.number }

pub running_kept : (list : List ℕ) (a : ℕ) → Good list → (n : ℕ) → n ≤ charges_in list → Kept n (running_after list a n)
unfolding running_after charged_by
running_kept list a good zero h = start_kept
running_kept list a good (suc n) h =
    let before = running_kept list a good n (omega arith) in
    cond_holds (Kept (suc n)) (eqb (account_charged list n) a)
    (λ _. charge_kept n (running_after list a n) (cents_charged list n) (good.small n (omega arith)) before)
    (λ _. longer_kept n (running_after list a n) before)

-- one more charge still fits
pub charge_fits :
    (list : List ℕ) (a : ℕ) → Good list → (n : ℕ) → n < charges_in list → SumFits (running_after list a n) (cents_charged list n)
charge_fits list a good n more =
    let kept = running_kept list a good n (omega arith) in
    let small = (addable_holds (cents_charged list n)).0 (good.small n more) in
    let bound = sum_bound (running_after list a n).cents (cents_charged list n) in
    record { sum_fits = (amount_holds _).1 (omega (arith, good.few, kept.bounded), omega (arith, good.few, kept.bounded)) }

-- and at the end there is a number
pub running_number : (list : List ℕ) (a : ℕ) → Good list → IsNumber (running_of list a)
running_number list a good = record { number = (running_kept list a good (charges_in list) (omega arith)).number }
