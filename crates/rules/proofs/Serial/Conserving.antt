-- What a block leaves on a charge account is what its acts add to it; so what the store's block leaves is what the acts of R
-- have added. Assumes nothing.
use Prim.Native.Nat.{ℕ}
use native.Mathlib.Omega.{arith}
use native.Mathlib.Decide.{ℕ_discrete}
use mathlib.Core.Path.{◌≡◌, refl, sym, ap, ◌∙◌}
use mathlib.Core.Option.{none, some}
use mathlib.Core.List.{List, [], ◌∷◌, ◌++◌}
use lib.Dec.{eqb}
use lib.IntN.{ℤ, pos, ◌+ℤ◌, +ℤ_idr, +ℤ_assoc}
use borrow.Author.Tests.{eq-eqb, ne_eqb}
use Rattle.rules.specs.Card.{IsCharge, base_place, card_at}
use Rattle.rules.specs.Amount.{base_amount}
use Rattle.rules.specs.Event.{Event}
use Rattle.rules.specs.Serial.Effect.{Effect, nothing, puts, adds, lay, sum_over}
use Rattle.rules.specs.Serial.Block.{Block, empty, read, write, child}
use Rattle.rules.specs.Serial.Told.{Told}
use Rattle.rules.specs.Serial.Collect.{store_block}
use Rattle.rules.specs.Serial.Reach.{Act, acts_of_r}
use Rattle.rules.specs.Serial.Conserved.{added_by, added_to}
use Rattle.rules.proofs.Laws.Tests.{cond_same}
use Rattle.rules.proofs.Serial.Values.{charge, over, account_values}
use Rattle.rules.proofs.Serial.Blocks.{only, own, after, only_there, only_elsewhere}
use Rattle.rules.proofs.Serial.Shown.{shown_base, shown_charge}
use Rattle.rules.proofs.Serial.Settling.{WholeOn, untouched, whole_card, charge_sum, is_charge_true}
use Rattle.rules.proofs.Serial.MachineShows.{sum_of_over}
use Rattle.rules.proofs.Serial.Running.{Whole, own_whole, only_whole}
use Rattle.rules.proofs.Serial.Acts.{acts_of, store_steps_acts}
use Rattle.rules.proofs.Serial.Exact.{exact_acts}
use Rattle.rules.proofs.Serial.SameActs.{added_append, same_added}

-- ---- effects

-- two effects on a charge account: both are sums
sum_laid :
    {k : ℕ} → IsCharge k → {f g : Effect} → WholeOn k f → WholeOn k g → (z : ℤ) → sum_over (lay f g) z ≡ sum_over f (sum_over g z)
unfolding lay sum_over
sum_laid account untouched under z = refl
sum_laid account (whole_card below size) under z = absurd (omega arith)
sum_laid account (charge_sum _) untouched z = refl
sum_laid account (charge_sum _) (whole_card below size) z = absurd (omega arith)
sum_laid account (charge_sum {x = x} _) (charge_sum {x = y} _) z = sym (+ℤ_assoc z y x)

-- the amount in a base card that shows an effect over another
amount_left :
    {k : ℕ} → IsCharge k → {f : Effect} → WholeOn k f → (base final : List ℕ) → over f (shown_base base k) ≡ shown_base final k →
    base_amount final k ≡ sum_over f (base_amount base k)
unfolding base_amount
amount_left {k} account {f} whole base final leaves =
    let is = is_charge_true account in
    let (now, laid) = sum_of_over is whole (card_at base (base_place k)) (base_amount base k) in
    let shown : charge (card_at final (base_place k)) (base_amount final k) ≡ charge now (sum_over f (base_amount base k)) =
    sym (shown_charge k (card_at final (base_place k)) is) ∙ sym leaves
    ∙ ap (over f) (shown_charge k (card_at base (base_place k)) is) ∙ laid in
    cc

-- ---- blocks

effect_adds : (f : Effect) (z : ℤ) → sum_over f z ≡ z +ℤ added_by (some f)
unfolding sum_over added_by
effect_adds nothing z = sym (+ℤ_idr z)
effect_adds (puts card) z = sym (+ℤ_idr z)
effect_adds (adds x) z = refl

module _ (k : ℕ) where
  read_adds : (i n j : ℕ) → added_to k (record { place = i; who = n; account = j; effect = none } ∷ []) ≡ pos 0
  unfolding added_to added_by
  read_adds i n j = cond_same (eqb j k) (pos 0)

  write_adds :
      (i n j : ℕ) (f : Effect) (z : ℤ) →
      sum_over (only account_values j f k) z ≡ z +ℤ added_to k (record { place = i; who = n; account = j; effect = some f } ∷ [])
  unfolding added_to sum_over
  write_adds i n j f z = cases (ℕ_discrete k j)
    where
      cases :
          Dec (k ≡ j) →
          sum_over (only account_values j f k) z ≡ z +ℤ added_to k (record { place = i; who = n; account = j; effect = some f } ∷ [])
      cases (yes k≡j) =
          rw (k≡j, only_there account_values j f, eq-eqb j j refl, +ℤ_idr (added_by (some f))) (effect_adds f z)
      cases (no k≢j) = rw (only_elsewhere account_values j f k k≢j, ne_eqb j k (λ j≡k. k≢j (sym j≡k))) (sym (+ℤ_idr z))

  added_behind : (z : ℤ) (xs ys : List Act) → (z +ℤ added_to k xs) +ℤ added_to k ys ≡ z +ℤ added_to k (xs ++ ys)
  added_behind z xs ys =
      +ℤ_assoc z (added_to k xs) (added_to k ys) ∙ ap (λ sum. z +ℤ sum) (sym (added_append k xs ys))

  -- what the block of number n leaves
  own_adds :
      IsCharge k → (n : ℕ) (d : Block Effect) → Whole d → (z : ℤ) →
      sum_over (own account_values d k) z ≡ z +ℤ added_to k (acts_of n d)
  unfolding Whole own acts_of sum_over added_to
  own_adds account n empty whole z = sym (+ℤ_idr z)
  own_adds account n (read b i j) whole z =
      let before = z +ℤ added_to k (acts_of n b) in
      own_adds account n b whole z ∙ sym (+ℤ_idr before) ∙ ap (λ sum. before +ℤ sum) (sym (read_adds i n j))
      ∙ added_behind z (acts_of n b) _
  own_adds account n (write b i j f) whole z =
      sum_laid account (only_whole whole.1 k) (own_whole b whole.0 k) z
      ∙ ap (sum_over (only account_values j f k)) (own_adds account n b whole.0 z)
      ∙ write_adds i n j f (z +ℤ added_to k (acts_of n b))
      ∙ added_behind z (acts_of n b) _
  own_adds account n (child b i who d) whole z =
      sum_laid account (own_whole d whole.1 k) (own_whole b whole.0 k) z
      ∙ ap (sum_over (own account_values d k)) (own_adds account n b whole.0 z)
      ∙ own_adds account who d whole.1 (z +ℤ added_to k (acts_of n b))
      ∙ added_behind z (acts_of n b) (acts_of who d)

-- ---- the store's block

module _ (es : List Event) (its : List Told) (whole : Whole (store_block es its)) {k : ℕ} (account : IsCharge k) where
  pub store_adds :
      (z : ℤ) → sum_over (own account_values (store_block es its) k) z ≡ z +ℤ added_to k (acts_of_r 0 (λ n. 0) es its)
  store_adds z =
      own_adds k account 0 (store_block es its) whole z
      ∙ ap (λ sum. z +ℤ sum)
      (same_added k (acts_of 0 (store_block es its)) (acts_of_r 0 (λ n. 0) es its)
      (λ i. rw (← (store_steps_acts (store_block es its))) (exact_acts es its i)))

  -- two base stores of which the second shows what the store's block leaves on the first
  pub store_conserves :
      (base final : List ℕ) → after account_values (store_block es its) (shown_base base) k ≡ shown_base final k →
      base_amount final k ≡ base_amount base k +ℤ added_to k (acts_of_r 0 (λ n. 0) es its)
  store_conserves base final leaves =
      amount_left account (own_whole (store_block es its) whole k) base final leaves ∙ store_adds (base_amount base k)
