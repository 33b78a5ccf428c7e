-- What the base store shows of an account, and what a read of it is given. Assumes nothing.
use Prim.Native.Nat.{ℕ}
use mathlib.Core.Path.{◌≡◌, refl}
use mathlib.Core.Bool.{true, false, cond}
use mathlib.Core.Option.{Option, none, some}
use mathlib.Core.List.{List}
use lib.IntN.{ℤ}
use Rattle.rules.specs.Card.{is_charge, base_place, card_at}
use Rattle.rules.specs.Amount.{is_amount, amount_in}
use Rattle.rules.proofs.Laws.Tests.{cond_holds}
use Rattle.rules.proofs.Laws.Amounts.{amount_in_any}
use Rattle.rules.proofs.Serial.Values.{AccountValue, plain, charge, account_values}
use Rattle.rules.proofs.Serial.Ground.{Charges}

-- an account whose card stands in the base store shows it and, where it is a charge account, the amount in it
unfoldable pub shown_card : ℕ → List ℕ → AccountValue
shown_card k card = cond (is_charge k) (charge card (amount_in card)) (plain card)

-- a number that is no account shows the empty card
abbrev pub shown_base : List ℕ → ℕ → AccountValue
shown_base base k = shown_card k (card_at base (base_place k))

-- the base store has room for the sum
unfoldable pub IsStorable : AccountValue → Type 0
IsStorable (plain card) = Unit {0}
IsStorable (charge card z) = is_amount z ≡ true

abbrev pub account_charges : Charges account_values
account_charges = record { is_charge = is_charge; Fit = IsStorable }

unfoldable pub card_shown : AccountValue → List ℕ
card_shown (plain card) = card
card_shown (charge card z) = card

unfoldable pub sum_shown : AccountValue → Option ℤ
sum_shown (plain card) = none
sum_shown (charge card z) = some z

-- the card that a read is given where it sees v and the base shows w: of a charge account it is the base card
unfoldable pub card_read : AccountValue → AccountValue → List ℕ
card_read (plain card) w = card
card_read (charge card z) w = card_shown w

module _ (k : ℕ) (card : List ℕ) where
  pub shown_plain : is_charge k ≡ false → shown_card k card ≡ plain card
  unfolding shown_card
  shown_plain below = rw below

  pub shown_charge : is_charge k ≡ true → shown_card k card ≡ charge card (amount_in card)
  unfolding shown_card
  shown_charge is = rw is

  pub card_shown_is : card_shown (shown_card k card) ≡ card
  unfolding shown_card card_shown
  card_shown_is = cond_holds (λ v. card_shown v ≡ card) (is_charge k) (λ is. refl) (λ below. refl)

  -- whatever stands in the base store, it has room for
  pub shown_is_storable : IsStorable (shown_card k card)
  unfolding shown_card IsStorable
  shown_is_storable = cond_holds IsStorable (is_charge k) (λ is. amount_in_any card) (λ below. tt)
