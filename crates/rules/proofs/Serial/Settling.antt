-- A topaction's own cards and sums settled in the base store: what every account shows then. Assumes nothing.
use Prim.Native.Nat.{ℕ, ◌<◌}
use native.Mathlib.Omega.{arith}
use native.Mathlib.Decide.{dec_lt}
use mathlib.Core.Path.{◌≡◌, refl, sym, ap, ◌∙◌}
use mathlib.Core.Logic.{◌≢◌}
use mathlib.Core.Bool.{true, false}
use mathlib.Core.List.{List}
use lib.ListN.{length}
use lib.IntN.{ℤ, ◌+ℤ◌}
use borrow.Author.Tests.{le-leb, lt-leb}
use Rattle.rules.specs.Range.{fold}
use Rattle.rules.specs.Card.{account_count, accounts, first_charge, is_charge, IsCharge, IsCard, base_length, base_place, card_at, with_card}
use Rattle.rules.specs.Amount.{amount_in, with_amount, base_amount}
use Rattle.rules.specs.Serial.Effect.{Effect, nothing, puts, adds, lay}
use Rattle.rules.specs.Serial.Machine.{Own, settle}
use Rattle.rules.proofs.Laws.Ranges.{fold_keeps, fold_changes}
use Rattle.rules.proofs.Laws.Sets.{account_within}
use Rattle.rules.proofs.Laws.Cards.{card_at_length, with_card_length, card_at_same, card_at_apart}
use Rattle.rules.proofs.Laws.Bytes.{card_at_beyond}
use Rattle.rules.proofs.Laws.Amounts.{with_amount_length, amount_put}
use Rattle.rules.proofs.Copies.Lines.{base_line, line_fits, line_apart}
use Rattle.rules.proofs.Serial.Values.{charge, over}
use Rattle.rules.proofs.Serial.Shown.{shown_card, shown_base, IsStorable, shown_plain, shown_charge}

-- ---- what the base store has room for

-- on account k: nothing, a card of 32 bytes on an account below the charge accounts, or a sum on a charge account
pub data WholeOn (k : ℕ) : Effect → Type 0 where
  untouched : WholeOn k nothing
  whole_card : {card : List ℕ} → k < first_charge → IsCard card → WholeOn k (puts card)
  charge_sum : {x : ℤ} → IsCharge k → WholeOn k (adds x)

abbrev pub AllWhole : Own → Type 0
AllWhole own = (k : ℕ) → WholeOn k (own k)

pub is_charge_true : {k : ℕ} → IsCharge k → is_charge k ≡ true
is_charge_true {k} account = le-leb first_charge k account.0

pub below_charges : {k : ℕ} → k < first_charge → is_charge k ≡ false
below_charges {k} below = lt-leb first_charge k below

-- no account has both a card and a sum
pub whole_laid : {k : ℕ} {f g : Effect} → WholeOn k f → WholeOn k g → WholeOn k (lay f g)
unfolding lay
whole_laid untouched under = under
whole_laid (whole_card below size) under = whole_card below size
whole_laid (charge_sum account) untouched = charge_sum account
whole_laid (charge_sum account) (whole_card below size) = absurd (omega arith)
whole_laid (charge_sum account) (charge_sum same) = charge_sum account

nothing_beyond : {k : ℕ} {f : Effect} → WholeOn k f → (k < account_count → ⊥) → f ≡ nothing
nothing_beyond untouched beyond = refl
nothing_beyond (whole_card below size) beyond = absurd (omega arith)
nothing_beyond (charge_sum account) beyond = absurd (beyond account.1)

-- ---- one account settled

-- the base card, once an effect is settled
card_settled : Effect → List ℕ → List ℕ
card_settled nothing card = card
card_settled (puts own) card = own
card_settled (adds sum) card = with_amount card (amount_in card +ℤ sum)

module _ (base : List ℕ) (long : length base ≡ base_length) where
  -- a card put into the base store
  module _ {j : ℕ} (account : j < account_count) (card : List ℕ) (size : IsCard card) where
    put_length : length (with_card base (base_place j) card) ≡ base_length
    put_length = with_card_length base (base_place j) card (line_fits (base_line base long) j account) size ∙ long

    put_same : card_at (with_card base (base_place j) card) (base_place j) ≡ card
    put_same = card_at_same base (base_place j) card (line_fits (base_line base long) j account) size

    put_other :
        (k : ℕ) → k < account_count → j ≢ k →
        card_at (with_card base (base_place j) card) (base_place k) ≡ card_at base (base_place k)
    put_other k h ne =
        let line = base_line base long in
        card_at_apart base (base_place j) card (line_fits line j account) size
        (base_place k) (line_fits line k h) (line_apart line j k ne)

  -- the card of an account with another amount is whole
  new_amount : {k : ℕ} → k < account_count → (z : ℤ) → IsCard (with_amount (card_at base (base_place k)) z)
  new_amount {k} account z =
      with_amount_length (card_at base (base_place k)) z
      (card_at_length base (base_place k) (line_fits (base_line base long) k account))

  settle_length : {k : ℕ} {f : Effect} → WholeOn k f → length (settle f k base) ≡ base_length
  unfolding settle
  settle_length untouched = long
  settle_length (whole_card below size) = put_length (omega arith) _ size
  settle_length (charge_sum account) = put_length account.1 _ (new_amount account.1 _)

  settle_same :
      {k : ℕ} {f : Effect} → WholeOn k f → card_at (settle f k base) (base_place k) ≡ card_settled f (card_at base (base_place k))
  unfolding settle card_settled base_amount
  settle_same untouched = refl
  settle_same (whole_card below size) = put_same (omega arith) _ size
  settle_same (charge_sum account) = put_same account.1 _ (new_amount account.1 _)

  settle_other :
      {j : ℕ} {f : Effect} → WholeOn j f → (k : ℕ) → k < account_count → j ≢ k →
      card_at (settle f j base) (base_place k) ≡ card_at base (base_place k)
  unfolding settle
  settle_other untouched k h ne = refl
  settle_other (whole_card below size) k h ne = put_other (omega arith) _ size k h ne
  settle_other (charge_sum account) k h ne = put_other account.1 _ (new_amount account.1 _) k h ne

-- ---- all accounts settled

abbrev pub settled : Own → List ℕ → List ℕ
settled own base = fold (λ k now. settle (own k) k now) accounts base

module _ {own : Own} (whole : AllWhole own) (base : List ℕ) (long : length base ≡ base_length) where
  pub settled_length : length (settled own base) ≡ base_length
  unfolding accounts
  settled_length =
      fold_keeps (λ now. length now ≡ base_length) _ 0 account_count (λ k h now e. settle_length now e (whole k)) base long

  settled_account :
      (k : ℕ) → k < account_count → card_at (settled own base) (base_place k) ≡ card_settled (own k) (card_at base (base_place k))
  unfolding accounts
  settled_account k h =
      fold_changes (λ now. length now ≡ base_length) (λ now. card_at now (base_place k)) (card_settled (own k)) _ 0 account_count k
      (λ j r now e. settle_length now e (whole j))
      (λ now e. settle_same now e (whole k))
      (λ j r ne now e. settle_other now e (whole j) k h ne)
      (account_within h) base long

  -- no account is numbered k: no card stands there, before or after
  settled_beyond :
      (k : ℕ) → (k < account_count → ⊥) →
      card_at (settled own base) (base_place k) ≡ card_settled (own k) (card_at base (base_place k))
  unfolding card_settled
  settled_beyond k beyond =
      rw (nothing_beyond (whole k) beyond)
      (card_at_beyond (settled own base) (base_place k) (omega (arith, settled_length))
      ∙ sym (card_at_beyond base (base_place k) (omega arith)))

  settled_card : (k : ℕ) → card_at (settled own base) (base_place k) ≡ card_settled (own k) (card_at base (base_place k))
  settled_card k = elim (dec_lt k account_count) [ yes h ↦ settled_account k h | no beyond ↦ settled_beyond k beyond ]

-- ---- what is shown

-- an account shows what its effect shows over the base, where the base has room for the sum
settled_value :
    {k : ℕ} {f : Effect} → WholeOn k f → (card : List ℕ) → IsStorable (over f (shown_card k card)) →
    shown_card k (card_settled f card) ≡ over f (shown_card k card)
unfolding card_settled over IsStorable
settled_value untouched card fits = refl
settled_value {k} (whole_card {card = own} below size) card fits = shown_plain k own (below_charges below)
settled_value {k} (charge_sum {x = x} account) card fits =
    let is = is_charge_true account in
    let z = amount_in card +ℤ x in
    rw (shown_charge k card is, shown_charge k (with_amount card z) is)
    (ap (charge (with_amount card z)) (amount_put card z (rw (shown_charge k card is) at fits)))

pub settled_shown :
    {own : Own} → AllWhole own → (base : List ℕ) → length base ≡ base_length →
    (k : ℕ) → IsStorable (over (own k) (shown_base base k)) →
    shown_base (settled own base) k ≡ over (own k) (shown_base base k)
settled_shown whole base long k fits =
    ap (shown_card k) (settled_card whole base long k) ∙ settled_value (whole k) (card_at base (base_place k)) fits
