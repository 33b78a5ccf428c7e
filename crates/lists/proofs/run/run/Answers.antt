-- `run` meets its contract. The loop's invariant: the first i events are done, and what is left leaves and answers
-- what the whole list does. The measure is the number of events that are left. Assumes nothing.
use native.Mathlib.Omega.{arith}
use mathlib.Core.Path.{refl, sym, ◌∙◌}
use Rattle.rules.specs.Encoding.{events_in}
use Rattle.rules.specs.Cause.{length_cause}
use Rattle.rules.proofs.Laws.Refusals.{never_none}
use Rattle.causes.proofs.Grouped.{passed_up, stores_accepted}
use Rattle.lists.proofs.ListRun.{none_done, one_done, all_done, list_refused, list_ran, list_stores_cause, cut_cause, no_room_cause, no_list_cause}
use Rattle.lists.proofs.run.run.Goals as goal

pub returns-in_err-store_cause : goal.returns-in_err-store_cause
returns-in_err-store_cause c =
    rw (passed_up c.from_residual.result _ c.from_residual.ensures.1)
    (list_refused _ _ _ _ (never_none _) (list_stores_cause _ _ _ c.in_err-store_cause.ensures (never_none _)))

-- behind the first test the stores fit and the table is sound
pub returns-then-events-ne0 : goal.returns-then-events-ne0
returns-then-events-ne0 c =
    let bytes = c.args.events.now in
    list_refused _ bytes _ length_cause (λ z. omega arith)
    (cut_cause _ bytes _ (stores_accepted _ _ _ c.in_ok-store_cause.ensures refl) (λ z. omega (arith, c.if-events-ne0.true)))

pub returns-then-answers-count : goal.returns-then-answers-count
returns-then-answers-count c =
    list_refused _ _ _ length_cause (λ z. omega arith) (no_room_cause _ _ _ (stores_accepted _ _ _ c.in_ok-store_cause.ensures refl) c.if-answers-count.true)

pub loop-i-init : goal.loop-i-init
loop-i-init c = none_done _ _ _ _ (stores_accepted _ _ _ c.in_ok-store_cause.ensures refl)

pub sound_event-answer-requires : goal.sound_event-answer-requires
sound_event-answer-requires c =
    let done = c.loop-i.invariant in record { sound = done.accepted.1; stores_fit = done.accepted.0 }

pub loop-i-preserved : goal.loop-i-preserved
loop-i-preserved c =
    rw c.store_answer.ensures
    (one_done _ _ _ _ _ _ _
    c.loop-i.invariant
    c.loop-i-test.true
    (omega arith)
    _
    (rw c.event_at-event.ensures at c.sound_event-answer.ensures))

pub shape_of-table : goal.shape_of-table
shape_of-table c = c.loop-i.invariant.accepted.1.long ∙ sym (stores_accepted _ _ _ c.in_ok-store_cause.ensures refl).1.long

pub shape_of-base : goal.shape_of-base
shape_of-base c = c.loop-i.invariant.accepted.0.base_fits ∙ sym (stores_accepted _ _ _ c.in_ok-store_cause.ensures refl).0.base_fits

pub shape_of-shadow : goal.shape_of-shadow
shape_of-shadow c = c.loop-i.invariant.accepted.0.shadow_fits ∙ sym (stores_accepted _ _ _ c.in_ok-store_cause.ensures refl).0.shadow_fits

pub returns : goal.returns
unfolding events_in
returns c =
    let (leaves, words) = all_done _ _ _ _ _ _ _ c.loop-i.invariant c.loop-i-test.false in
    list_ran _ _ _ _ _
    (no_list_cause _ _ _ (stores_accepted _ _ _ c.in_ok-store_cause.ensures refl)
    c.if-events-ne0.false c.if-answers-count.false)
    leaves words
