-- RULES 6.5: the machine that performs the serial run's operations. It keeps base bytes and, of the actions whose blocks have
-- begun, the own cards and the pending sums, and nothing else. Assumes nothing.
use Rattle.std.specs.Prelude.{ℕ, cond, List, [], ◌∷◌, ◌++◌, ℤ, ◌+ℤ◌}
use Rattle.std.proofs.Math.Option.{Option, none, some}
use Rattle.rules.specs.Range.{fold}
use Rattle.rules.specs.Card.{accounts, is_charge, base_place, card_at, with_card}
use Rattle.rules.specs.Amount.{with_amount, base_amount}
use Rattle.rules.specs.Event.{Event}
use Rattle.rules.specs.Serial.Effect.{Effect, nothing, puts, adds, lay, card_over, sum_over}
use Rattle.rules.specs.Serial.Told.{Told}
use Rattle.rules.specs.Serial.Collect.{put, store_block}
use Rattle.rules.specs.Serial.Schedule.{Operation, begins, reads, writes, ends, schedule_of}

-- by account, an action's own card or its pending sum
abbrev pub Own : Type 0
Own = ℕ → Effect

-- a read of the serial run: the place of its event in S, the card that it is given and, of a charge account, the amount
pub record Given : Type 0 where
  pub place : ℕ
  pub card : List ℕ
  pub amount : Option ℤ

-- the actions under way are a list, the innermost first
pub record Machine : Type 0 where
  pub base : List ℕ
  pub under_way : List Own
  pub given : List Given

-- the card that a read of account k is given: the innermost own card, else the base card
unfoldable pub shows_card : List ℕ → List Own → ℕ → List ℕ
shows_card base [] k = card_at base (base_place k)
shows_card base (own ∷ above) k = card_over (own k) (shows_card base above k)

-- the base amount of charge account k and the pending sums of all actions under way
unfoldable pub shows_sum : List ℕ → List Own → ℕ → ℤ
shows_sum base [] k = base_amount base k
shows_sum base (own ∷ above) k = sum_over (own k) (shows_sum base above k)

unfoldable pub shows_amount : List ℕ → List Own → ℕ → Option ℤ
shows_amount base under k = let sum = shows_sum base under k in cond (is_charge k) (some sum) none

-- an own card replaces the base card of its account; a pending sum is added to the base amount
unfoldable pub settle : Effect → ℕ → List ℕ → List ℕ
settle nothing k base = base
settle (puts card) k base = with_card base (base_place k) card
settle (adds sum) k base =
    with_card base (base_place k) (with_amount (card_at base (base_place k)) (base_amount base k +ℤ sum))

-- the innermost action after a write or an add
unfoldable pub written : ℕ → Effect → List Own → List Own
written k f [] = []
written k f (own ∷ above) = put own k (lay f (own k)) ∷ above

-- the innermost action ends, under a parent or, where it is alone, under the store
unfoldable pub ended : Machine → List Own → Machine
ended m [] = m
ended m (own ∷ []) = record { base = fold (λ k now. settle (own k) k now) accounts m.base; under_way = []; given = m.given }
ended m (own ∷ parent ∷ above) =
    record { base = m.base; under_way = (λ k. lay (own k) (parent k)) ∷ above; given = m.given }

-- one operation
unfoldable pub perform : Machine → Operation Effect → Machine
perform m (begins who) = record { base = m.base; under_way = (λ k. nothing) ∷ m.under_way; given = m.given }
perform m (reads i k) =
    record {
      base = m.base;
      under_way = m.under_way;
      given =
          m.given
          ++ (record { place = i; card = shows_card m.base m.under_way k; amount = shows_amount m.base m.under_way k } ∷ []);
    }
perform m (writes i k f) = record { base = m.base; under_way = written k f m.under_way; given = m.given }
perform m ends = ended m m.under_way

unfoldable pub perform_all : Machine → List (Operation Effect) → Machine
perform_all m [] = m
perform_all m (x ∷ xs) = perform_all (perform m x) xs

-- RULES 6.1: the serial run, from S, what is told of its events, and the base store before S
unfoldable pub serial : List Event → List Told → List ℕ → Machine
serial es its opening =
    perform_all (record { base = opening; under_way = []; given = [] }) (schedule_of (store_block es its))
