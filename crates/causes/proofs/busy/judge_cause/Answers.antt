-- `judge_cause` meets its contract: 17 where the action isn't in the queue of its kind or is ready there, else 0. Assumes nothing.
use mathlib.Core.Path.{sym, ◌∙◌}
use Rattle.queue.proofs.OwnQueue.{own_kind, sound_line, stands_once}
use Rattle.causes.specs.Groups.{judge_causes}
use Rattle.causes.proofs.busy.judge_cause.Goals as goal
use Rattle.causes.proofs.busy.judge_cause.Goals.{then-not-is_queued-via-then-not-is_queued, then-not-is_queued-via-else-not-is_queued+then-is_queued_ready}

pub is_queued-requires : goal.is_queued-requires
is_queued-requires c =
    sound_line c.requires.sound _ (own_kind c.args.table.now c.args.number c.kind_of-h.ensures)

pub is_queued_ready-requires-clause-has_line : goal.is_queued_ready-requires-clause-has_line
is_queued_ready-requires-clause-has_line c =
    sound_line c.requires.sound _ (own_kind c.args.table.now c.args.number c.kind_of-h.ensures)

pub is_queued_ready-requires-clause-stands_once : goal.is_queued_ready-requires-clause-stands_once
is_queued_ready-requires-clause-stands_once c =
    stands_once c.requires.sound _ (own_kind c.args.table.now c.args.number c.kind_of-h.ensures)

pub returns-then-not-is_queued : goal.returns-then-not-is_queued
unfolding judge_causes
returns-then-not-is_queued c =
    rw (← c.kind_of-h.ensures)
    (elim c.then-not-is_queued.branch [
      | then-not-is_queued-via-then-not-is_queued w ↦ rw (sym c.is_queued.ensures ∙ w.if-not-is_queued.true)
      | then-not-is_queued-via-else-not-is_queued+then-is_queued_ready w ↦ rw (sym c.is_queued.ensures ∙ w.if-not-is_queued.false, sym w.is_queued_ready.ensures ∙ w.if-is_queued_ready.true)
    ])

pub returns : goal.returns
unfolding judge_causes
returns c =
    rw (
      ← c.kind_of-h.ensures,
      sym c.is_queued.ensures ∙ c.if-not-is_queued.false,
      sym c.is_queued_ready.ensures ∙ c.if-is_queued_ready.false,
    )
