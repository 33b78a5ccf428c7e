-- `is_head_ready` meets its contract: it asks the length and then the head's readiness, as the definition does. Assumes nothing.
use native.Mathlib.Omega.{arith}
use borrow.Author.Tests.{le-ltb, lt-ltb}
use Rattle.rules.specs.Queue.{entry_at, is_head_ready}
use Rattle.queue.proofs.find.is_head_ready.Goals as goal

pub returns-then-queue_length-ge-FIRST_POSITION : goal.returns-then-queue_length-ge-FIRST_POSITION
unfolding is_head_ready entry_at
returns-then-queue_length-ge-FIRST_POSITION c =
    rw (
      c.entry_readiness.ensures,
      ← c.queue_length.ensures,
      lt-ltb 0 c.queue_length.result (omega arith),
    )

pub returns-else-queue_length-ge-FIRST_POSITION : goal.returns-else-queue_length-ge-FIRST_POSITION
unfolding is_head_ready
returns-else-queue_length-ge-FIRST_POSITION c =
    rw (
      ← c.queue_length.ensures,
      le-ltb 0 c.queue_length.result (omega arith),
    )
