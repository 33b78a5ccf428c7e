-- `cause` asks causes 1 and 2 first, and where neither applies those of an event on a sound table. Assumes nothing.
use mathlib.Core.Path.{refl, sym, ◌∙◌}
use Rattle.rules.proofs.Laws.Refusals.{never_none}
use Rattle.causes.proofs.Grouped.{passed_up, stores_accepted, event_refused, event_accepted}
use Rattle.engine.proofs.event.cause.Goals as goal

pub returns-in_err-store_cause : goal.returns-in_err-store_cause
returns-in_err-store_cause c =
    passed_up c.from_residual.result _ c.from_residual.ensures.1
    ∙ sym (event_refused _ _ _ _ c.in_err-store_cause.ensures (never_none _))

-- where neither applies the stores fit and the table is sound
pub sound_cause-requires : goal.sound_cause-requires
sound_cause-requires c =
    let (fits, good) = stores_accepted _ _ _ c.in_ok-store_cause.ensures refl in
    record { sound = good; base = fits.base_fits }

pub returns : goal.returns
returns c =
    c.sound_cause.ensures
    ∙ sym (event_accepted _ _ _ _ (stores_accepted _ _ _ c.in_ok-store_cause.ensures refl))
