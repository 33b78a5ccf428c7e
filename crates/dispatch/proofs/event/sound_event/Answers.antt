-- `sound_event` meets its contract: over a sound table and stores that fit, an early cause that is given is the event's.
-- Assumes nothing.
use mathlib.Core.Path.{sym}
use Rattle.rules.proofs.Laws.Refusals.{never_none, step_refused}
use Rattle.causes.proofs.Grouped.{event_asked}
use Rattle.dispatch.proofs.event.sound_event.Goals as goal

pub returns-in-Err : goal.returns-in-Err
returns-in-Err c =
    sym (step_refused _ _ _
    (event_asked _ _ _ _ (c.requires.stores_fit, c.requires.sound) c.in-Err.ensures.cause (never_none _)))
