-- What a look shows: the card in the action's view or, of a charge account, the base card; and so what a reader has seen, by the
-- look and the answer. Assumes nothing.
use Prim.Native.Nat.{ℕ, ◌<◌}
use mathlib.Core.Path.{◌≡◌, refl, sym, ap, ◌∙◌}
use mathlib.Core.Logic.{◌⊎◌, inl, inr}
use mathlib.Core.Bool.{true, false}
use mathlib.Core.Option.{Option, none, some}
use mathlib.Core.List.{List}
use lib.Dec.{eqb}
use lib.IntN.{ℤ}
use Rattle.rules.specs.Card.{first_charge, is_charge, base_place, card_at}
use Rattle.rules.specs.Amount.{amount_in}
use Rattle.rules.specs.Walk.{Climbs}
use Rattle.rules.specs.Nearest.{nearest}
use Rattle.rules.specs.Look.{look_cause, card_part, bytes_of, looked_card}
use Rattle.rules.specs.Ledger.{Ledger}
use Rattle.rules.proofs.Laws.Tests.{test}
use Rattle.rules.proofs.Stores.Looking.{look_given, looked_card_charge}
use Rattle.rules.proofs.Serial.Values.{AccountValue, plain, charge}
use Rattle.rules.proofs.Serial.Shown.{shown_base, card_shown, sum_shown, card_read, shown_charge}
use Rattle.rules.proofs.Demand.Abstraction.{card_of, view_of}
use Rattle.rules.proofs.Demand.ViewCases.{view_card}

abbrev pub look_cause_in : Ledger → ℕ → ℕ → ℕ
look_cause_in s n k = look_cause s.table s.base s.shadow n k

abbrev pub looked_in : Ledger → ℕ → ℕ → List ℕ
looked_in s n k = looked_card s.table s.base s.shadow n k

-- ---- what a reader has seen, in the ledger after its read

-- where the answer has a sum, that sum, and the card in the view; else the card that a look shows
unfoldable pub seen_with : Option ℤ → Ledger → ℕ → ℕ → AccountValue
seen_with none s n k = plain (looked_in s n k)
seen_with (some z) s n k = charge (card_shown (view_of s n k)) z

-- what the base shows of a charge account, by the card that a look shows
abbrev pub shown_under : List ℕ → AccountValue
shown_under card = charge card (amount_in card)

-- a read that sees this is given the card that a look shows, and the sum in the answer
module _ (s : Ledger) (n k : ℕ) where
  pub card_looked : (sum : Option ℤ) → card_read (seen_with sum s n k) (shown_under (looked_in s n k)) ≡ looked_in s n k
  unfolding card_read card_shown seen_with
  card_looked none = refl
  card_looked (some z) = refl

  pub sum_answered : (sum : Option ℤ) → sum_shown (seen_with sum s n k) ≡ sum
  unfolding sum_shown seen_with
  sum_answered none = refl
  sum_answered (some z) = refl

-- ---- a look that isn't refused

module _ (s : Ledger) (n k : ℕ) (given : look_cause_in s n k ≡ 0) where
  -- the bytes of the part that holds m's card
  part_bytes : (m : ℕ) → bytes_of s.base s.shadow (card_part m k) ≡ card_of s m k
  unfolding card_of card_at
  part_bytes m = cases (test (eqb m 0))
    where
      cases : (eqb m 0 ≡ true) ⊎ (eqb m 0 ≡ false) → bytes_of s.base s.shadow (card_part m k) ≡ card_of s m k
      cases (inl store) = rw store
      cases (inr action) = rw action

  looked_nearest : looked_in s n k ≡ card_of s (nearest s.table n k) k
  looked_nearest = rw (look_given s.table s.base s.shadow n k given) (part_bytes (nearest s.table n k))

  pub view_looked : Climbs s.table n → k < first_charge → view_of s n k ≡ plain (looked_in s n k)
  view_looked up below = view_card s k below n up ∙ ap plain (sym looked_nearest)

  pub base_shown : is_charge k ≡ true → shown_base s.base k ≡ shown_under (looked_in s n k)
  base_shown is =
      shown_charge k (card_at s.base (base_place k)) is
      ∙ ap shown_under (sym (looked_card_charge s.table s.base s.shadow n k given is))
