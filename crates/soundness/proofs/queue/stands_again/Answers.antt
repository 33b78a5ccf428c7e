-- `stands_again` meets its contract: its range is that of the later positions. Assumes nothing.
use Rattle.std.proofs.Common.{rules, tests, eqb, ◌∙◌}
use Rattle.rules.specs.Action.{kind_number}
use Rattle.rules.specs.Queue.{entry_number}
use Rattle.rules.proofs.Laws.RangeTests.{any_of_range}
use Rattle.soundness.proofs.queue.stands_again.Goals as goal

pub returns : goal.returns
returns c =
    let w = c.args.table.now in
    let h = kind_number c.args.h in
    any_of_range (λ j. eqb (entry_number w h c.args.i) (entry_number w h j)) c.any.ensures.ran (λ j b q called. search (rules, tests))
    ∙ rw c.queue_length-tail.ensures
