-- `first_ahead` meets its contract: its range is that of the actions. Assumes nothing.
use Rattle.std.proofs.Common.{rules, tests, ◌∙◌, ap}
use Rattle.rules.specs.Ahead.{ahead_by, ahead_among, first_ahead}
use Rattle.rules.proofs.Laws.RangeTests.{find_map_of_range, to_highest}
use Rattle.validation.proofs.AheadSearch.{among_none, among_here, among_next}
use Rattle.validation.proofs.ahead.first_ahead.Goals as goal

pub returns : goal.returns
unfolding first_ahead
returns c =
    let w = c.args.table.now in
    let n = c.args.n in
    find_map_of_range (ahead_by w n) (ahead_among w n) (among_none w n) (among_here w n) (among_next w n) _ c.find_map.ensures.runs
    (λ m r q called. search (rules, tests))
    ∙ ap (ahead_among w n) (to_highest w c.highest.ensures)
