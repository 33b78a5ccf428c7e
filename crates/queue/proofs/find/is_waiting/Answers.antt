-- `is_waiting` meets its contract: it asks the two queues in turn, as the definition does. Assumes nothing.
use mathlib.Core.Path.{sym, ◌∙◌}
use Rattle.rules.proofs.Laws.Tests.{or_false}
use Rattle.rules.specs.Range.{up_from, any}
use Rattle.rules.specs.Kind.{kinds}
use Rattle.rules.specs.Queue.{is_waiting}
use Rattle.queue.proofs.find.is_waiting.Goals as goal

pub returns-then-is_queued : goal.returns-then-is_queued
unfolding is_waiting kinds up_from any
returns-then-is_queued c = rw (← c.is_queued.ensures, c.if-is_queued.true)

pub returns-else-is_queued : goal.returns-else-is_queued
unfolding is_waiting kinds up_from any
returns-else-is_queued c =
    rw (← c.is_queued.ensures, c.if-is_queued.false) (c.is_queued-else-is_queued.ensures ∙ sym (or_false _))
