-- An action's view of an account: the nearest version's card or, of a charge account, the sum that a read answers.
-- Assumes nothing.
use Prim.Native.Nat.{ℕ, ◌≤◌, ◌<◌}
use native.Mathlib.Omega.{arith}
use mathlib.Core.Path.{◌≡◌, refl, sym, ap, ◌∙◌}
use mathlib.Core.Logic.{⊎_elim, ◌≢◌}
use mathlib.Core.List.{List}
use lib.IntN.{◌+ℤ◌, +ℤ_idr}
use borrow.Author.Tests.{ne_eqb}
use Rattle.rules.specs.Card.{first_charge, IsCharge, base_place, card_at}
use Rattle.rules.specs.Amount.{with_amount, base_amount}
use Rattle.rules.specs.Table.{highest, parent_of, has_written, pending_sum}
use Rattle.rules.specs.Walk.{Climbs}
use Rattle.rules.specs.Sound.{IsGiven, StoreOrLive}
use Rattle.rules.specs.Nearest.{nearest, read_sum}
use Rattle.rules.specs.Ledger.{Ledger}
use Rattle.rules.proofs.Laws.Tests.{test}
use Rattle.rules.proofs.Laws.Walking.{climb_holds, sound_climbs, nearest_store, nearest_step}
use Rattle.rules.proofs.Laws.Charges.{read_sum_store, read_sum_step, has_card_below}
use Rattle.rules.proofs.Serial.Values.{plain, charge, over}
use Rattle.rules.proofs.Serial.Shown.{card_shown, shown_plain, shown_charge}
use Rattle.rules.proofs.Serial.Settling.{is_charge_true, below_charges}
use Rattle.rules.proofs.Demand.Abstraction.{card_of, view_of}
use Rattle.rules.proofs.Demand.Proper.{Proper}
use Rattle.rules.proofs.Demand.AbstractionLaws.{effect_card, effect_sum, effect_unwritten, no_sum, view_store, view_step}

-- ---- an account below the charge accounts

module _ (s : Ledger) (k : ℕ) (below : k < first_charge) where
  -- m's view is its nearest version's card
  NearestShown : ℕ → Type 0
  NearestShown m = view_of s m k ≡ plain (card_of s (nearest s.table m k) k)

  store_shown : NearestShown 0
  unfolding NearestShown card_of
  store_shown = view_store s k ∙ rw (nearest_store s.table k) (shown_plain k _ (below_charges below))

  action_shown : (m : ℕ) → m ≢ 0 → Climbs s.table m → NearestShown (parent_of s.table m) → NearestShown m
  unfolding NearestShown card_of over
  action_shown m ne up above =
      view_step s m k ne up
      ∙ rw (nearest_step s.table m k ne up, has_card_below s.table m k below)
      (⊎_elim
      (λ written. rw (effect_card s m k below written, written, ne_eqb m 0 ne) refl)
      (λ unwritten. rw (effect_unwritten s m k (omega arith) unwritten, unwritten) above)
      (test (has_written s.table m k)))

  pub view_card : (n : ℕ) → Climbs s.table n → view_of s n k ≡ plain (card_of s (nearest s.table n k) k)
  unfolding NearestShown
  view_card = climb_holds s.table NearestShown store_shown action_shown

-- ---- a charge account

module _ (s : Ledger) (proper : Proper s) (k : ℕ) (is : IsCharge k) where
  -- m's view has the sum that a read of m's is answered
  SumShown : ℕ → Type 0
  SumShown m = (card : List ℕ) × (view_of s m k ≡ charge card (read_sum s.table s.base m k))

  store_sum : SumShown 0
  unfolding SumShown base_amount
  store_sum =
      let card = card_at s.base (base_place k) in
      (card, view_store s k ∙ shown_charge k card (is_charge_true is) ∙ ap (charge card) (sym (read_sum_store s.table s.base k)))

  action_sum :
      (m : ℕ) → m ≢ 0 → Climbs s.table m → (parent_of s.table m ≤ highest s.table → SumShown (parent_of s.table m)) →
      m ≤ highest s.table → SumShown m
  unfolding SumShown over
  action_sum m ne up above known =
      let begun : IsGiven s.table m = (omega arith, known) in
      let (card, shown) = above (proper.sound.known m begun) in
      let sum = read_sum s.table s.base (parent_of s.table m) k in
      rw (view_step s m k ne up, shown, read_sum_step s.table s.base m k ne up)
      (⊎_elim
      (λ written. (with_amount card (sum +ℤ pending_sum s.table m k), rw (effect_sum s m k is written) refl))
      (λ unwritten.
      let none = no_sum s proper m k begun is unwritten in
      (card, rw (effect_unwritten s m k is.1 unwritten, none) (ap (charge card) (sym (+ℤ_idr sum)))))
      (test (has_written s.table m k)))

  sum_shown : (n : ℕ) → StoreOrLive s.table n → SumShown n
  sum_shown n from =
      climb_holds s.table (λ m. m ≤ highest s.table → SumShown m) (λ _. store_sum) action_sum n
      (sound_climbs proper.sound n from) from.0

  pub view_sum :
      (n : ℕ) → StoreOrLive s.table n → view_of s n k ≡ charge (card_shown (view_of s n k)) (read_sum s.table s.base n k)
  unfolding SumShown card_shown
  view_sum n from = let (card, shown) = sum_shown n from in rw shown refl
