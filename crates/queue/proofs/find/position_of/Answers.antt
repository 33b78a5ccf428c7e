-- `position_of` meets its contract: its range is that of the positions. Assumes nothing.
use Rattle.std.proofs.Common.{rules, tests, ◌∙◌}
use Rattle.rules.specs.Action.{kind_number}
use Rattle.rules.specs.Queue.{entry_at}
use Rattle.rules.proofs.Laws.RangeTests.{find_of_range}
use Rattle.queue.specs.Line.{stands_at}
use Rattle.queue.proofs.Positions.{found_first}
use Rattle.queue.proofs.find.position_of.Goals as goal

pub returns : goal.returns
unfolding entry_at
returns c =
    find_of_range (stands_at c.args.table.now (kind_number c.args.h) c.args.n) _ c.find.ensures.ran
    (λ i b q called. search (rules, tests))
    ∙ rw c.queue_length-tail.ensures (found_first _ _ _)
