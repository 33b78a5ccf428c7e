-- `judge` answers and leaves what the rule's judge does: the verdict is revealed, which keeps the table sound, and then the head
-- is tried. Assumes nothing.
use Prim.Native.Nat.{ℕ}
use mathlib.Core.Bool.{Bool}
use mathlib.Core.Path.{ap}
use native.Mathlib.Omega.{arith}
use borrow.Author.Rules.{rules}
use Rattle.rules.specs.Table.{parent_of}
use Rattle.rules.specs.Sound.{Sound}
use Rattle.judging.specs.Asked.{IsQueued}
use Rattle.rules.specs.Ledger.{Ledger, ledger_of}
use Rattle.rules.specs.Step.{judge_left, judge}
use Rattle.rules.proofs.Laws.Kinds.{kind_known}
use Rattle.rules.proofs.Sound.Kept.{revealed_sound}
use Rattle.queue.proofs.OwnQueue.{sound_line, stands_once}
use Rattle.judging.specs.Reveal.{revealed_table}
use Rattle.judging.proofs.Leaving.{table_revealed}
use Rattle.judging.proofs.judge.judge.Goals as goal

-- the table after the verdict is revealed is sound
shown_sound : (s : Ledger) (n : ℕ) → Sound s.table → IsQueued s.table n → (b : Bool) → Sound (revealed_table s.table n b)
shown_sound s n sound queued b =
    rw (ap (λ (l : Ledger). l.table) (table_revealed s n b)) at (revealed_sound s sound n queued b)

pub kind_of-h-requires : goal.kind_of-h-requires
kind_of-h-requires c =
    let may = (c.requires.sound.lines _ (kind_known (parent_of c.args.table.now c.args.n))).waits c.args.n c.requires.queued in
    record { long = search rules; known = omega (arith, may.begun, c.requires.sound.few) }

pub is_queued_failed-failed-requires : goal.is_queued_failed-failed-requires
is_queued_failed-failed-requires c =
    let known = kind_known (parent_of c.args.table.now c.args.n) in
    rw c.kind_of-h.ensures
    record { has_line = sound_line c.requires.sound _ known; stands_once = stands_once c.requires.sound _ known }

pub leave-left-requires : goal.leave-left-requires
leave-left-requires c =
    let entry = ledger_of c.args.table.now c.args.base.now c.args.shadow.now in
    record {
      sound = rw c.reveal.ensures (shown_sound entry c.args.n c.requires.sound c.requires.queued _);
      stores_fit = c.requires.stores_fit;
    }

pub returns-then-failed : goal.returns-then-failed
unfolding judge judge_left
returns-then-failed c =
    let entry = ledger_of c.args.table.now c.args.base.now c.args.shadow.now in
    rw (
      ← c.kind_of-h.ensures,
      ← c.is_queued_failed-failed.ensures,
      table_revealed entry c.args.n c.is_queued_failed-failed.result,
      ← c.reveal.ensures,
    )
    (rw (c.leave-left.ensures.count, c.leave-left.ensures.leaves, c.if-failed.true))

pub returns : goal.returns
unfolding judge judge_left
returns c =
    let entry = ledger_of c.args.table.now c.args.base.now c.args.shadow.now in
    rw (
      ← c.kind_of-h.ensures,
      ← c.is_queued_failed-failed.ensures,
      table_revealed entry c.args.n c.is_queued_failed-failed.result,
      ← c.reveal.ensures,
    )
    (rw (c.leave-left.ensures.count, c.leave-left.ensures.leaves, c.if-failed.false))
