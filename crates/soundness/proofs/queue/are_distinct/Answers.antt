-- `are_distinct` meets its contract: its range is that of the positions. Assumes nothing.
use Rattle.std.proofs.Common.{rules, tests, not, ◌+◌, sym, ◌∙◌}
use Rattle.rules.specs.Action.{kind_number}
use Rattle.rules.proofs.Laws.RangeTests.{all_of_range}
use Rattle.soundness.specs.Positions.{stands_from}
use Rattle.soundness.proofs.QueueNumbers.{distinct_by_position}
use Rattle.soundness.proofs.queue.are_distinct.Goals as goal

pub returns : goal.returns
returns c =
    let w = c.args.table.now in
    let h = kind_number c.args.h in
    all_of_range (λ i. not (stands_from w h i (i + 1))) c.all.ensures.ran (λ i b q called. search (rules, tests))
    ∙ rw c.queue_length-tail.ensures (sym (distinct_by_position _ _))
