-- The causes of a report: those of every call, with the opening store's length among them, and then the figures'.
-- Assumes nothing.
use Prim.Native.Nat.{ℕ}
use native.Mathlib.Decide.{ℕ_discrete}
use native.Mathlib.Omega.{arith}
use mathlib.Core.Path.{◌≡◌, refl, sym, ap, ◌∙◌}
use mathlib.Core.Logic.{◌≢◌}
use mathlib.Core.Bool.{Bool, true, false, cond, ◌||◌}
use mathlib.Core.List.{List, [], ◌∷◌, ◌++◌}
use borrow.Author.Tests.{eq-eqb, ne_eqb}
use lib.ListN.{length}
use Rattle.std.specs.Prelude.{Result, Ok, Err, IsErrAnd}
use Rattle.rules.specs.Range.{any}
use Rattle.rules.specs.Card.{base_length, charge_accounts}
use Rattle.rules.specs.Cause.{Cause, first_cause, store_length_cause, is_store_length_wrong, sum_cause, store_causes}
use Rattle.rules.specs.declared.refusal.Refusal.{Refusal}
use Rattle.rules.specs.Refusal.{refusal_number, refusal_of}
use Rattle.rules.proofs.Laws.Refusals.{never_none}
use Rattle.rules.specs.Tree.{is_figure_outside, tree_causes, tree_cause}
use Rattle.rules.proofs.Laws.Tests.{or_inr}
use Rattle.causes.proofs.Grouped.{Accepted, stores_refused, stores_passed, stores_accepted}
use Rattle.report.specs.Asked.{FiguresFit}
use Rattle.report.proofs.Fitting.{figures_fit}

-- that of the figures
abbrev pub figure_causes : List ℕ → List Cause
figure_causes w = record { number = sum_cause; applies = any (is_figure_outside w) charge_accounts } ∷ []

module _ (w base shadow opening : List ℕ) where
  pub opening_wrong : length opening ≢ base_length → tree_cause w base shadow opening ≡ store_length_cause
  unfolding tree_cause tree_causes
  opening_wrong other = rw (ne_eqb (length opening) base_length other, or_inr (is_store_length_wrong base shadow) refl)

  pub opening_right :
      length opening ≡ base_length → tree_cause w base shadow opening ≡ first_cause (store_causes w base shadow ++ figure_causes w)
  unfolding tree_cause tree_causes store_causes
  opening_right opens = rw (eq-eqb (length opening) base_length opens, or_false (is_store_length_wrong base shadow))
    where
      or_false : (b : Bool) → (b || false) ≡ b
      or_false true = refl
      or_false false = refl

  -- a refusal that is passed up from the causes of every call
  pub refused_by_stores :
      {A : Type 0} (answer : Result A Refusal) (refusal : Refusal) → length opening ≡ base_length →
      IsErrAnd answer (λ e. e ≡ refusal) → refusal_number refusal ≡ first_cause (store_causes w base shadow) →
      refusal_of answer ≡ tree_cause w base shadow opening
  refused_by_stores (Ok x) refusal opens passed asked = absurd passed
  refused_by_stores (Err e) refusal opens passed asked =
      ap refusal_number passed
      ∙ sym (opening_right opens ∙ stores_refused w base shadow (figure_causes w) asked (never_none refusal))

  -- ---- none of them

  -- what holds of a table that has a report
  pub record Reportable : Type 0 where
    pub opens : length opening ≡ base_length
    pub accepted : Accepted w base shadow
    pub fit : FiguresFit w

  pub reportable : tree_cause w base shadow opening ≡ 0 → Reportable
  reportable none = by_length (ℕ_discrete (length opening) base_length)
    where
      by_figures : (b : Bool) → cond b sum_cause 0 ≡ 0 → b ≡ false
      by_figures true some = absurd (omega (arith, some))
      by_figures false zero = refl

      by_stores :
          length opening ≡ base_length → first_cause (store_causes w base shadow ++ figure_causes w) ≡ 0 →
          Dec (first_cause (store_causes w base shadow) ≡ 0) → Reportable
      by_stores opens zero (no some) = absurd (some (sym (stores_refused w base shadow (figure_causes w) refl some) ∙ zero))
      by_stores opens zero (yes passed) =
          let accepted = stores_accepted w base shadow refl passed in
          let inside = by_figures _ (sym (stores_passed w base shadow (figure_causes w) accepted) ∙ zero) in
          record { opens = opens; accepted = accepted; fit = figures_fit accepted.1 inside }

      by_length : Dec (length opening ≡ base_length) → Reportable
      by_length (no other) = absurd (omega (arith, sym (opening_wrong other) ∙ none))
      by_length (yes opens) =
          by_stores opens (sym (opening_right opens) ∙ none) (ℕ_discrete (first_cause (store_causes w base shadow)) 0)
