-- A commit that passes carries the sums on: what the one that commits brings to its parent's pending sum, or to the base
-- amount, is its total, which is kept there. Assumes nothing.
use Prim.Native.Nat.{ℕ}
use native.Mathlib.Omega.{arith}
use native.Mathlib.Decide.{ℕ_discrete}
use mathlib.Core.Path.{◌≡◌, sym, ap, ap₂, ◌∙◌}
use mathlib.Core.Logic.{◌≢◌}
use mathlib.Core.Bool.{false}
use mathlib.Core.List.{List}
use lib.IntN.{ℤ, ◌+ℤ◌, +ℤ_assoc}
use Rattle.std.specs.Prelude.{None}
use Rattle.rules.specs.Card.{IsCharge}
use Rattle.rules.specs.Amount.{amount_of, base_amount}
use Rattle.rules.specs.Table.{parent_of, pending_field, pending_sum, own_adds, kept_field, kept_sum, total_of}
use Rattle.rules.specs.Sound.{IsGiven}
use Rattle.rules.specs.Ledger.{Ledger}
use Rattle.rules.specs.Cause.{is_commit_outside}
use Rattle.rules.specs.Commit.{committed_under}
use Rattle.rules.proofs.Laws.Amounts.{amount_read_back}
use Rattle.rules.proofs.Laws.Permitted.{Committable, kept_sum_fits}
use Rattle.rules.proofs.Sound.Committing.{commit_highest, commit_keeps_others, commit_own_adds, commit_kept}
use Rattle.rules.proofs.Demand.Proper.{Proper}
use Rattle.rules.proofs.Demand.CommitTable.{number_few, parent_few}
use Rattle.rules.proofs.Demand.CommitCards.{commit_base_same}
use Rattle.rules.proofs.Tree.Carried.{Carried}
use Rattle.rules.proofs.Tree.CommitSums.{parent_grows, base_grows}

module _
    {s : Ledger} (proper : Proper s) {n p : ℕ} (judged : Committable s.table n) (under : parent_of s.table n ≡ p)
    (fits : is_commit_outside s.table s.base n None ≡ false) (k : ℕ) (charge : IsCharge k)
    {opening : ℤ} (was : Carried k opening s.table (base_amount s.base k)) where
  abbrev w : List ℕ
  w = s.table

  abbrev v : List ℕ
  v = (committed_under s n p).table

  own_kept : (m : ℕ) → own_adds v m k ≡ own_adds w m k
  own_kept m = ap amount_of (commit_own_adds s n p judged.own.0 m k charge)

  -- nobody else's kept sum changes
  other_kept : (m : ℕ) → m ≢ p → kept_sum v m k ≡ kept_sum w m k
  other_kept m other =
      ap amount_of (commit_keeps_others s n p judged.own.0 m other (kept_field k) (omega arith) (omega arith))

  -- p's grows by what the child brings, which is its pending sum
  kept_grows : kept_sum v p k ≡ kept_sum w p k +ℤ pending_sum w n k
  kept_grows =
      ap amount_of
      (commit_kept s n p judged.own.0 proper.sound.long (number_few proper judged under) (parent_few proper judged under)
      k charge)
      ∙ amount_read_back _ (rw under at (kept_sum_fits s.table s.base n fits k charge))
      ∙ ap (λ z. kept_sum w p k +ℤ z) (sym (was.sums n judged.own))

  other_carried : (m : ℕ) → IsGiven w m → m ≢ p → pending_sum v m k ≡ total_of v m k
  other_carried m h other =
      ap amount_of (commit_keeps_others s n p judged.own.0 m other (pending_field k) (omega arith) (omega arith))
      ∙ was.sums m h
      ∙ sym (ap₂ ◌+ℤ◌ (own_kept m) (other_kept m other))

  parent_carried : IsGiven w p → pending_sum v p k ≡ total_of v p k
  parent_carried h =
      parent_grows proper judged under fits k charge (λ z. omega arith)
      ∙ ap (λ z. z +ℤ pending_sum w n k) (was.sums p h)
      ∙ +ℤ_assoc (own_adds w p k) (kept_sum w p k) (pending_sum w n k)
      ∙ sym (ap₂ ◌+ℤ◌ (own_kept p) kept_grows)

  store_carried : Dec (p ≡ 0) → base_amount (committed_under s n p).base k ≡ opening +ℤ kept_sum v 0 k
  store_carried (yes top) =
      base_grows proper judged under fits k charge top
      ∙ ap (λ z. z +ℤ pending_sum w n k) was.closing
      ∙ +ℤ_assoc opening (kept_sum w 0 k) (pending_sum w n k)
      ∙ ap (λ z. opening +ℤ z) (sym at_store)
    where
      at_store : kept_sum v 0 k ≡ kept_sum w 0 k +ℤ pending_sum w n k
      at_store =
          ap (λ q. kept_sum v q k) (sym top) ∙ kept_grows ∙ ap (λ q. kept_sum w q k +ℤ pending_sum w n k) top
  store_carried (no sub) =
      rw (commit_base_same proper judged under sub)
      (was.closing ∙ ap (λ z. opening +ℤ z) (sym (other_kept 0 (λ e. sub (sym e)))))

  pub commit_carried : Carried k opening v (base_amount (committed_under s n p).base k)
  commit_carried =
      record {
        sums = λ m h. by_parent m (h.0, rw (commit_highest s n p judged.own.0) at h.1) (ℕ_discrete m p);
        closing = store_carried (ℕ_discrete p 0);
      }
    where
      by_parent : (m : ℕ) → IsGiven w m → Dec (m ≡ p) → pending_sum v m k ≡ total_of v m k
      by_parent m h (yes e) = rw e (parent_carried (rw e at h))
      by_parent m h (no ne) = other_carried m h ne
