-- What the machine of the serial run shows of an account, as a value, and what it gives to a read of it. Assumes nothing.
use Prim.Native.Nat.{ℕ}
use mathlib.Core.Path.{◌≡◌, refl, sym, ap, ◌∙◌}
use mathlib.Core.Bool.{Bool, true, false, cond}
use mathlib.Core.Option.{none, some}
use mathlib.Core.List.{List, [], ◌∷◌}
use lib.IntN.{ℤ, ◌+ℤ◌}
use Rattle.rules.specs.Card.{is_charge, base_place, card_at}
use Rattle.rules.specs.Amount.{with_amount, base_amount}
use Rattle.rules.specs.Serial.Effect.{Effect, nothing, puts, adds, card_over, sum_over}
use Rattle.rules.specs.Serial.Machine.{Own, shows_card, shows_sum, shows_amount}
use Rattle.rules.proofs.Laws.Tests.{not_both}
use Rattle.rules.proofs.Serial.Values.{AccountValue, plain, charge, over}
use Rattle.rules.proofs.Serial.Shown.{shown_base, sum_shown, card_read, shown_plain, shown_charge, card_shown_is}
use Rattle.rules.proofs.Serial.Settling.{WholeOn, untouched, whole_card, charge_sum, AllWhole, below_charges}

-- what account k shows to the innermost of the actions under way
unfoldable pub shows : List ℕ → List Own → ℕ → AccountValue
shows base [] k = shown_base base k
shows base (own ∷ above) k = over (own k) (shows base above k)

-- each of them has effects only that the base store has room for
unfoldable pub AllWholeIn : List Own → Type 0
AllWholeIn [] = Unit {0}
AllWholeIn (own ∷ above) = AllWhole own × AllWholeIn above

plain_over : (f : Effect) (card : List ℕ) → over f (plain card) ≡ plain (card_over f card)
unfolding over card_over
plain_over nothing card = refl
plain_over (puts own) card = refl
plain_over (adds x) card = refl

module _ {k : ℕ} (is : is_charge k ≡ true) where
  -- on a charge account there are sums only
  card_kept : {f : Effect} → WholeOn k f → (card : List ℕ) → card_over f card ≡ card
  unfolding card_over
  card_kept untouched card = refl
  card_kept (whole_card below size) card = absurd (not_both is (below_charges below))
  card_kept (charge_sum account) card = refl

  pub sum_of_over :
      {f : Effect} → WholeOn k f → (card : List ℕ) (z : ℤ) →
      (now : List ℕ) × (over f (charge card z) ≡ charge now (sum_over f z))
  unfolding over sum_over
  sum_of_over untouched card z = (card, refl)
  sum_of_over (whole_card below size) card z = absurd (not_both is (below_charges below))
  sum_of_over (charge_sum {x = x} account) card z = (with_amount card (z +ℤ x), refl)

module _ (base : List ℕ) (k : ℕ) where
  -- an account below the charge accounts shows the card that a read is given
  shows_plain : is_charge k ≡ false → (under : List Own) → shows base under k ≡ plain (shows_card base under k)
  unfolding shows shows_card
  shows_plain below [] = shown_plain k _ below
  shows_plain below (own ∷ above) = ap (over (own k)) (shows_plain below above) ∙ plain_over (own k) (shows_card base above k)

  -- of a charge account a read is given the base card, and the amount that the account shows
  base_card_shown : is_charge k ≡ true → (under : List Own) → AllWholeIn under → shows_card base under k ≡ card_at base (base_place k)
  unfolding shows_card AllWholeIn
  base_card_shown is [] whole = refl
  base_card_shown is (own ∷ above) whole =
      card_kept is (whole.0 k) (shows_card base above k) ∙ base_card_shown is above whole.1

  shows_charge :
      is_charge k ≡ true → (under : List Own) → AllWholeIn under →
      (card : List ℕ) × (shows base under k ≡ charge card (shows_sum base under k))
  unfolding shows shows_sum base_amount AllWholeIn
  shows_charge is [] whole = (card_at base (base_place k), shown_charge k _ is)
  shows_charge is (own ∷ above) whole =
      let (card, shown) = shows_charge is above whole.1 in
      let (now, laid) = sum_of_over is (whole.0 k) card (shows_sum base above k) in
      (now, ap (over (own k)) shown ∙ laid)

  -- A read of account k that sees v, where the base shows w of a charge account.
  module _ (under : List Own) (whole : AllWholeIn under) (v w : AccountValue) (sees : shows base under k ≡ v)
      (on_base : is_charge k ≡ true → shown_base base k ≡ w) where
    pub card_read_is : shows_card base under k ≡ card_read v w
    unfolding card_read
    card_read_is = cases (is_charge k) refl
      where
        cases : (b : Bool) → is_charge k ≡ b → shows_card base under k ≡ card_read v w
        cases false below = rw (sym sees ∙ shows_plain below under) refl
        cases true is =
            let (card, shown) = shows_charge is under whole in
            rw (sym sees ∙ shown, sym (on_base is), card_shown_is k (card_at base (base_place k))) (base_card_shown is under whole)

    pub amount_read : shows_amount base under k ≡ sum_shown v
    unfolding shows_amount sum_shown
    amount_read = cases (is_charge k) refl
      where
        cases : (b : Bool) → is_charge k ≡ b → cond b (some (shows_sum base under k)) none ≡ sum_shown v
        cases false below = rw (sym sees ∙ shows_plain below under) refl
        cases true is = let (card, shown) = shows_charge is under whole in rw (sym sees ∙ shown) refl
