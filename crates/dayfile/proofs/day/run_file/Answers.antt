-- `run_file` meets its contract: it opens the table, sets the opening base store and gives the file's events to the list call,
-- which has no reason to refuse them. Assumes nothing.
use native.Mathlib.Omega.{arith}
use mathlib.Core.Path.{◌∙◌}
use Rattle.rules.specs.declared.rule.Rule.TheVariants.{Backward}
use Rattle.rules.proofs.Laws.Refusals.{is_accepted}
use Rattle.table.proofs.Opens.{opens}
use Rattle.dayread.proofs.Faultless.{faultless}
use Rattle.dayfile.proofs.Days.{events_part, file_ran}
use Rattle.dayfile.proofs.day.run_file.Goals as goal

pub slice_bounds-run-count : goal.slice_bounds-run-count
slice_bounds-run-count c =
    let f = faultless _ c.requires.accepts.clean in
    omega (arith, c.events_at-at.ensures)

pub slice_bounds-run-start : goal.slice_bounds-run-start
slice_bounds-run-start c =
    let f = faultless _ c.requires.accepts.clean in
    omega (arith, c.events_at-at.ensures)

pub overflow_sub-result : goal.overflow_sub-result
overflow_sub-result c =
    let f = faultless _ c.requires.accepts.clean in
    omega (arith, c.events_at-at.ensures)

pub unwrap-requires : goal.unwrap-requires
unwrap-requires c =
    let given = c.args.table.now in
    is_accepted _ ((rw c.from.ensures at c.«open».ensures.cause) ∙ opens given Backward c.requires.accepts.table_fits)

pub unwrap-requires-2 : goal.unwrap-requires-2
unwrap-requires-2 c =
    let a = c.requires.accepts in
    let ran =
    file_ran _ _ _ a c.requires.has_answer_room
    (rw c.from.ensures at c.«open».ensures.leaves)
    c.open_base.ensures
    (c.open_base.auto.base ∙ a.base_fits)
    (events_part c.args.file.now _ c.events_at-at.ensures)
    c.run.ensures
    in
    is_accepted _ ran.2

pub returns : goal.returns
returns c =
    let a = c.requires.accepts in
    let f = faultless _ a.clean in
    let ran =
    file_ran _ _ _ a c.requires.has_answer_room
    (rw c.from.ensures at c.«open».ensures.leaves)
    c.open_base.ensures
    (c.open_base.auto.base ∙ a.base_fits)
    (events_part c.args.file.now _ c.events_at-at.ensures)
    c.run.ensures
    in
    record { count = omega (arith, f.whole, c.events_at-at.ensures); leaves = ran.0; answers = ran.1 }
