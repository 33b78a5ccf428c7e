-- `all_may_wait` meets its contract: its range is that of the positions. Assumes nothing.
use Rattle.std.proofs.Common.{rules, tests, sym, ◌∙◌}
use Rattle.rules.specs.Action.{kind_number}
use Rattle.rules.specs.Queue.{entry_number}
use Rattle.rules.specs.Sound.{may_wait}
use Rattle.rules.proofs.Laws.RangeTests.{all_of_range}
use Rattle.soundness.proofs.QueueNumbers.{all_by_position}
use Rattle.soundness.proofs.queue.all_may_wait.Goals as goal

pub returns : goal.returns
returns c =
    let w = c.args.table.now in
    let h = kind_number c.args.h in
    all_of_range (λ i. may_wait w h (entry_number w h i)) c.all.ensures.ran (λ i b q called. search (rules, tests))
    ∙ rw c.queue_length-tail.ensures (sym (all_by_position _ _ (may_wait _ _)))
