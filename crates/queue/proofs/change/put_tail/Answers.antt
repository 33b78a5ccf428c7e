-- `put_tail` meets its contract: the entries before the tail are put again as they stand (`tail_put`). Assumes nothing.
use mathlib.Core.Path.{sym}
use Rattle.queue.proofs.Putting.{tail_put}
use Rattle.queue.proofs.change.put_tail.Goals as goal

pub returns : goal.returns
returns c =
    rw (c.set_queue_length.ensures, c.put_entry.ensures, c.queue_length-tail.ensures)
    (sym (tail_put _ _ _ _))
