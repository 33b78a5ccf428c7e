-- `sight_of` asks the causes of a read in their order, and where none of them applies the last by what is seen.
-- Assumes nothing.
use mathlib.Core.Path.{refl, sym, ◌∙◌}
use mathlib.Core.List.{[]}
use Rattle.rules.specs.Event.{read_by}
use Rattle.rules.specs.Cause.{are_outside}
use Rattle.rules.proofs.Laws.Allowed.{early_allowed}
use Rattle.rules.proofs.Laws.Refusals.{never_none}
use Rattle.rules.proofs.Stores.Looking.{look_refused_as_read}
use Rattle.causes.proofs.Grouped.{passed_up, stores_accepted, event_refused, event_asked, event_summed}
use Rattle.engine.proofs.sight.sight_of.Goals as goal

pub returns-in_err-store_cause-clause-cause : goal.returns-in_err-store_cause-clause-cause
returns-in_err-store_cause-clause-cause c =
    passed_up c.from_residual.result _ c.from_residual.ensures.1
    ∙ sym (look_refused_as_read _ _ _ _ _ [] ∙ event_refused _ _ _ _ c.in_err-store_cause.ensures (never_none _))

-- behind it the stores fit and the table is sound
pub event_cause-requires : goal.event_cause-requires
event_cause-requires c = (stores_accepted _ _ _ c.in_ok-store_cause.ensures refl).1

pub returns-in_err-event_cause-clause-cause : goal.returns-in_err-event_cause-clause-cause
returns-in_err-event_cause-clause-cause c =
    let accepted = stores_accepted _ _ _ c.in_ok-store_cause.ensures refl in
    passed_up c.from_residual-in_err-event_cause.result _ c.from_residual-in_err-event_cause.ensures.1
    ∙ sym (look_refused_as_read _ _ _ _ _ [] ∙ event_asked _ _ _ _ accepted (rw c.from.ensures at c.in_err-event_cause.ensures.cause) (never_none _))

-- behind it no early cause of a read applies
pub late_sight-requires : goal.late_sight-requires
late_sight-requires c =
    let read = early_allowed c.args.table.now (read_by c.args.n c.args.k) (sym (rw c.from.ensures at c.in_ok-event_cause.ensures.cause)) in
    let (fits, sound) = stores_accepted _ _ _ c.in_ok-store_cause.ensures refl in
    record {
      readable = record { sound = sound; known = read.number_known; alive = read.alive; account = read.account_known refl };
      base = fits.base_fits;
    }

pub returns-clause-cause : goal.returns-clause-cause
unfolding are_outside
returns-clause-cause c =
    let accepted = stores_accepted _ _ _ c.in_ok-store_cause.ensures refl in
    c.late_sight.ensures.cause
    ∙ sym (look_refused_as_read _ _ _ _ _ [] ∙ event_summed _ _ _ (read_by c.args.n c.args.k) accepted (sym (rw c.from.ensures at c.in_ok-event_cause.ensures.cause)))
