-- A report is not refused where the stores fit, the table is sound and every total is an amount. Assumes nothing.
use Prim.Native.Nat.{ℕ}
use native.Mathlib.Omega.{arith}
use mathlib.Core.Path.{◌≡◌}
use mathlib.Core.Bool.{true, false, not, ◌||◌}
use mathlib.Core.List.{List}
use lib.Dec.{eqb}
use lib.ListN.{length}
use borrow.Author.Tests.{eq-eqb}
use Rattle.rules.specs.Range.{any}
use Rattle.rules.specs.Card.{base_length, first_charge, charge_count, charge_accounts, IsCharge}
use Rattle.rules.specs.Amount.{is_amount}
use Rattle.rules.specs.Table.{highest, total_of, actions}
use Rattle.rules.specs.Sound.{IsGiven}
use Rattle.rules.specs.Ledger.{Ledger}
use Rattle.rules.specs.Cause.{is_store_length_wrong}
use Rattle.rules.specs.Tree.{is_shown, is_figure_outside, tree_causes, tree_cause}
use Rattle.rules.proofs.Laws.Tests.{not_fails, and_fails, or_fails}
use Rattle.rules.proofs.Laws.Ranges.{not_any}
use Rattle.rules.proofs.Laws.Allowed.{stores_fit}
use Rattle.rules.proofs.Sound.Soundness.{tested}
use Rattle.rules.proofs.Demand.Proper.{Proper}

pub not_refused :
    (s : Ledger) (opening : List ℕ) → Proper s → length opening ≡ base_length →
    ((n k : ℕ) → IsGiven s.table n → IsCharge k → is_amount (total_of s.table n k) ≡ true) →
    tree_cause s.table s.base s.shadow opening ≡ 0
unfolding tree_cause tree_causes is_figure_outside actions charge_accounts
not_refused s opening proper opening_fits totals =
    rw (lengths_right, tested s.table proper.sound, all_inside)
  where
    lengths_right : (is_store_length_wrong s.base s.shadow || not (eqb (length opening) base_length)) ≡ false
    lengths_right =
        (or_fails _ _).1 (
          (stores_fit s.base s.shadow).1 (proper.base_fits, proper.shadow_fits),
          (not_fails _).1 (eq-eqb _ _ opening_fits),
        )

    figures_inside : (k : ℕ) → IsCharge k → is_figure_outside s.table k ≡ false
    figures_inside k charge =
        not_any _ 1 (highest s.table) (λ n h. (and_fails (is_shown s.table n) _).1 (λ _. (not_fails _).1 (totals n k (omega arith) charge)))

    all_inside : any (is_figure_outside s.table) charge_accounts ≡ false
    all_inside = not_any _ first_charge charge_count (λ k h. figures_inside k (omega arith))
