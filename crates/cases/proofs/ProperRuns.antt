-- A list from a new table leaves every table sound and every store of its length, so no event of it is refused for these: it
-- computes without the test for a sound table, which is most of what it would cost. Assumes nothing.
use mathlib.Core.Path.{◌≡◌, refl, ap, ◌∙◌}
use mathlib.Core.Bool.{cond}
use mathlib.Core.List.{List, [], ◌∷◌, ◌++◌}
use Prim.Native.Nat.{ℕ}
use borrow.Author.Tests.{eq-eqb}
use lib.Dec.{eqb}
use lib.ListN.{length-replicate}
use Rattle.rules.specs.declared.Answer.TheVariants.{Refused}
use Rattle.rules.specs.Card.{base_length, shadow_length}
use Rattle.rules.specs.Event.{Event}
use Rattle.rules.specs.Ledger.{Ledger}
use Rattle.rules.specs.Cause.{first_cause, store_causes, early_causes, late_causes, causes_of, cause_of}
use Rattle.rules.specs.Step.{Outcome, act, step, act_leavers, leavers_at}
use Rattle.rules.specs.Run.{Ran, run}
use Rattle.rules.proofs.Sound.Soundness.{tested}
use Rattle.rules.proofs.Demand.Proper.{Proper, new_proper, step_keeps_proper}
use Rattle.cases.specs.Case.{opening_under}
use Rattle.rules.specs.Refusal.{refusal_numbered}

-- ---- without the first two causes

unfoldable pub later_cause : Ledger → Event → ℕ
later_cause s e = first_cause (early_causes s.table e ++ late_causes s.table s.base e)

unfoldable pub proper_step : Ledger → Event → Outcome
proper_step s e =
    let cause = later_cause s e in
    cond (eqb cause 0) (act s e) (record { answer = Refused (refusal_numbered cause); after = s })

unfoldable pub proper_leavers : Ledger → Event → List ℕ
proper_leavers s e =
    let leavers = act_leavers s e in
    cond (eqb (later_cause s e) 0) leavers []

unfoldable pub proper_run : Ledger → List Event → Ran
proper_run s [] = record { answers = []; leavers = []; after = s }
proper_run s (e ∷ es) =
    let one = proper_step s e in
    let rest = proper_run one.after es in
    record { answers = one.answer ∷ rest.answers; leavers = proper_leavers s e ∷ rest.leavers; after = rest.after }

-- ---- it is the same

module _ (s : Ledger) (proper : Proper s) (e : Event) where
  same_cause : cause_of s.table s.base s.shadow e ≡ later_cause s e
  unfolding cause_of causes_of store_causes later_cause
  same_cause =
      rw (eq-eqb _ _ proper.base_fits, eq-eqb _ _ proper.shadow_fits, tested s.table proper.sound) refl

  same_step : step s e ≡ proper_step s e
  unfolding step proper_step
  same_step = rw same_cause refl

  same_leavers : leavers_at s e ≡ proper_leavers s e
  unfolding leavers_at proper_leavers
  same_leavers = rw same_cause refl

-- an event, and what the rest gives
abbrev before : Outcome → List ℕ → Ran → Ran
before one leavers rest =
    record { answers = one.answer ∷ rest.answers; leavers = leavers ∷ rest.leavers; after = rest.after }

pub same_run : (s : Ledger) → Proper s → (es : List Event) → run s es ≡ proper_run s es
unfolding run proper_run
same_run s proper [] = refl
same_run s proper (e ∷ es) =
    ap (before (step s e) (leavers_at s e)) (same_run (step s e).after (step_keeps_proper s e proper) es)
    ∙ ap (λ leavers. before (step s e) leavers (proper_run (step s e).after es)) (same_leavers s proper e)
    ∙ ap (λ one. before one (proper_leavers s e) (proper_run one.after es)) (same_step s proper e)

pub opened_run : (r : ℕ) (es : List Event) → run (opening_under r) es ≡ proper_run (opening_under r) es
opened_run r =
    same_run (opening_under r) (new_proper r _ _ (length-replicate {A = ℕ} base_length 0) (length-replicate {A = ℕ} shadow_length 0))
