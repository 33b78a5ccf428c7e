-- `move_entry` puts the three words that it read, which are the entry. Assumes nothing.
use Rattle.rules.specs.Queue.{entry_at}
use Rattle.queue.proofs.change.move_entry.Goals as goal

pub returns : goal.returns
unfolding entry_at
returns c =
    rw (
      c.put_entry.ensures,
      c.entry_readiness-readiness.ensures,
      c.entry_verdict-verdict.ensures,
      c.entry_number-number.ensures,
    )
