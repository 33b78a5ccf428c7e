-- `time_cause` meets its contract: 19 where no end time is left for one more than those who wait, else 0. A sound queue is short,
-- so one more than its length fits a word. Assumes nothing.
use Prim.Native.Nat.{ℕ, ◌+◌}
use native.Mathlib.Omega.{arith}
use mathlib.Core.Path.{◌≡◌, sym, ◌∙◌}
use mathlib.Core.Bool.{Bool, true, false, not}
use borrow.Author.Tests.{leb-true, leb-false, le-leb, lt-leb}
use lib.Dec.{leb}
use Rattle.rules.specs.Table.{last_time}
use Rattle.queue.proofs.OwnQueue.{own_kind}
use Rattle.causes.specs.Groups.{time_causes}
use Rattle.causes.proofs.busy.time_cause.Goals as goal

-- one more doesn't fit where the bound is reached
reached : (count waiting last : ℕ) (fits : Bool) → leb (count + (waiting + 1)) last ≡ fits → leb last (count + waiting) ≡ not fits
reached count waiting last true is = lt-leb last (count + waiting) (omega (arith, leb-true (count + (waiting + 1)) last is))
reached count waiting last false is = le-leb last (count + waiting) (omega (arith, leb-false (count + (waiting + 1)) last is))

pub overflow_add-queue_length : goal.overflow_add-queue_length
overflow_add-queue_length c =
    let known = own_kind c.args.table.now c.args.number c.kind_of-h.ensures in
    omega (arith, c.queue_length.ensures, (c.requires.sound.lines _ known).short)

pub returns : goal.returns
unfolding time_causes
returns c =
    rw (
      ← c.kind_of-h.ensures,
      ← c.queue_length.ensures,
      reached _ _ last_time true (sym c.has_times_left.ensures ∙ c.if-not-has_times_left.false),
    )

pub returns-then-not-has_times_left : goal.returns-then-not-has_times_left
unfolding time_causes
returns-then-not-has_times_left c =
    rw (
      ← c.kind_of-h.ensures,
      ← c.queue_length.ensures,
      reached _ _ last_time false (sym c.has_times_left.ensures ∙ c.if-not-has_times_left.true),
    )
