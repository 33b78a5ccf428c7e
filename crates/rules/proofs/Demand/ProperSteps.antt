-- An event on a proper ledger has neither of the first two causes: its step computes without the test for a sound table, which is
-- most of what it would cost. Assumes nothing.
use mathlib.Core.Path.{◌≡◌, refl}
use mathlib.Core.Bool.{cond}
use borrow.Author.Tests.{eq-eqb}
use lib.Dec.{eqb}
use Rattle.rules.specs.declared.Answer.TheVariants.{Refused}
use Rattle.rules.specs.Event.{Event}
use Rattle.rules.specs.Ledger.{Ledger}
use Rattle.rules.specs.Cause.{store_causes, causes_of, cause_of, later_cause}
use Rattle.rules.specs.Step.{Outcome, act, step}
use Rattle.rules.proofs.Sound.Soundness.{tested}
use Rattle.rules.proofs.Demand.Proper.{Proper}
use Rattle.rules.specs.Refusal.{refusal_numbered}

unfoldable pub proper_step : Ledger → Event → Outcome
proper_step s e =
    let cause = later_cause s.table s.base e in
    cond (eqb cause 0) (act s e) (record { answer = Refused (refusal_numbered cause); after = s })

module _ (s : Ledger) (proper : Proper s) (e : Event) where
  pub same_cause : cause_of s.table s.base s.shadow e ≡ later_cause s.table s.base e
  unfolding cause_of causes_of store_causes later_cause
  same_cause =
      rw (eq-eqb _ _ proper.base_fits, eq-eqb _ _ proper.shadow_fits, tested s.table proper.sound) refl

  pub same_step : step s e ≡ proper_step s e
  unfolding step proper_step
  same_step = rw same_cause refl
