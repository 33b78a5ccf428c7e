-- On a proper ledger the lists are those of a search that never tests whether a table is sound, which is most of what it would
-- cost to compute. Assumes nothing.
use Prim.Native.Nat.{ℕ, zero, suc}
use mathlib.Core.Path.{◌≡◌, refl, ap, ap₂, ◌∙◌}
use mathlib.Core.Bool.{Bool, true, false}
use mathlib.Core.List.{List, [], ◌∷◌, ◌++◌, map}
use lib.Dec.{eqb}
use borrow.Author.Tests.{eqb-true}
use Rattle.rules.specs.Event.{Event}
use Rattle.rules.specs.Ledger.{Ledger}
use Rattle.rules.specs.Cause.{later_cause}
use Rattle.rules.specs.Step.{act, step}
use Rattle.rules.specs.Serial.Demand.{opening_under}
use Rattle.rules.proofs.Laws.EventCases.{cause_in}
use Rattle.rules.proofs.Demand.Proper.{Proper, opening_proper, step_keeps_proper}
use Rattle.rules.proofs.Demand.ProperSteps.{same_cause}
use Rattle.enumeration.specs.Lists.{candidate_count, candidate, beginning_by, beginning, beginning_from, lists, short_days}
use Rattle.enumeration.proofs.Taken.{no_cause_acts}

-- ---- the search, as in specs/Lists.antt

unfoldable pub proper_beginning_by : Bool → (Ledger → List (List Event)) → Ledger → Event → List (List Event)
proper_beginning_by true follow s e = map (λ es. e ∷ es) (follow (act s e).after)
proper_beginning_by false follow s e = []

abbrev proper_beginning : (Ledger → List (List Event)) → Ledger → Event → List (List Event)
proper_beginning follow s e = proper_beginning_by (eqb (later_cause s.table s.base e) 0) follow s e

unfoldable pub proper_beginning_from : (Ledger → List (List Event)) → ℕ → Ledger → ℕ → ℕ → List (List Event)
proper_beginning_from follow p s zero c = []
proper_beginning_from follow p s (suc left) c =
    proper_beginning follow s (candidate p c) ++ proper_beginning_from follow p s left (suc c)

unfoldable pub proper_lists : ℕ → ℕ → Ledger → List (List Event)
proper_lists zero p s = [] ∷ []
proper_lists (suc k) p s = proper_beginning_from (proper_lists k (suc p)) p s candidate_count 0

-- ---- it finds the same

module _
    (follow properly : Ledger → List (List Event)) (agree : (s : Ledger) → Proper s → follow s ≡ properly s)
    (s : Ledger) (proper : Proper s) where
  same_beginning : (e : Event) → beginning follow s e ≡ proper_beginning properly s e
  unfolding beginning_by proper_beginning_by
  same_beginning e = by_cause (eqb (cause_in s e) 0) refl ∙ ap (λ c. proper_beginning_by (eqb c 0) properly s e) (same_cause s proper e)
    where
      by_cause : (b : Bool) → eqb (cause_in s e) 0 ≡ b → beginning_by b follow s e ≡ proper_beginning_by b properly s e
      by_cause true none =
          ap (map (λ es. e ∷ es))
          (agree (step s e).after (step_keeps_proper s e proper) ∙ ap (λ o. properly o.after) (no_cause_acts s e (eqb-true _ _ none)))
      by_cause false _ = refl

  same_beginning_from : (p left c : ℕ) → beginning_from follow p s left c ≡ proper_beginning_from properly p s left c
  unfolding beginning_from proper_beginning_from
  same_beginning_from p zero c = refl
  same_beginning_from p (suc left) c = ap₂ ◌++◌ (same_beginning (candidate p c)) (same_beginning_from p left (suc c))

same_lists : (k p : ℕ) (s : Ledger) → Proper s → lists k p s ≡ proper_lists k p s
unfolding lists proper_lists
same_lists zero p s proper = refl
same_lists (suc k) p s proper =
    same_beginning_from (lists k (suc p)) (proper_lists k (suc p)) (same_lists k (suc p)) s proper p candidate_count 0

pub days_properly : (k rule : ℕ) → short_days k rule ≡ proper_lists k 0 (opening_under rule)
unfolding short_days
days_properly k rule = same_lists k 0 (opening_under rule) (opening_proper rule)
