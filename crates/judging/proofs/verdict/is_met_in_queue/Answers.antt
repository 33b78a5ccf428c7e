-- `is_met_in_queue` meets its contract: its range is that of the positions. Assumes nothing.
use Rattle.std.proofs.Common.{rules, tests, sym, ◌∙◌}
use Rattle.rules.specs.Action.{kind_number}
use Rattle.rules.specs.Queue.{entry_number}
use Rattle.rules.specs.Verdict.{is_met_by}
use Rattle.rules.proofs.Laws.RangeTests.{any_of_range}
use Rattle.judging.proofs.MetSiblings.{met_from_head}
use Rattle.judging.proofs.verdict.is_met_in_queue.Goals as goal

pub returns : goal.returns
returns c =
    let w = c.args.table.now in
    let h = kind_number c.args.h in
    any_of_range (λ i. is_met_by w c.args.n (entry_number w h i)) c.any.ensures.ran (λ i b q called. search (rules, tests))
    ∙ rw c.queue_length-tail.ensures (sym (met_from_head _ _ _))
