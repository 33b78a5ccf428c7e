-- `tree` meets its contract: a refused day puts its one line, any other is run and its report put. Assumes nothing.
use Rattle.std.proofs.Common.{rules}
use native.Mathlib.Omega.{arith}
use mathlib.Core.Path.{◌≡◌, refl, sym, ap, ◌∙◌}
use lib.ListN.{length}
use Rattle.rules.specs.Ledger.{ledger_of}
use Rattle.rules.proofs.Laws.Refusals.{never_none, not_err}
use Rattle.listing.proofs.Bounds.{refused_fits}
use Rattle.dayfile.specs.Tree.{day_tree_cause}
use Rattle.dayfile.proofs.Days.{accepts}
use Rattle.dayfile.proofs.DayTree.{tree_accepts, tree_refused, has_report, tree_runs}
use Rattle.dayfile.proofs.tree.tree.Goals as goal

pub put_refused-requires : goal.put_refused-requires
put_refused-requires c = omega (arith, c.new-text.ensures.front, ap length c.new-text.ensures.kept, refused_fits c.from.result)

pub returns-in-Err : goal.returns-in-Err
returns-in-Err c =
    let given = c.args in
    let s = ledger_of given.table.now given.base.now given.shadow.now in
    tree_refused s given.opening.now given.file.now given.out.now c.in-Err.ensures (never_none c.in-Err.refusal)
    (search rules) (search rules)

-- behind the first test the day has no cause, and so it is run
pub run_file-requires-clause-accepts : goal.run_file-requires-clause-accepts
run_file-requires-clause-accepts c =
    let given = ledger_of c.args.table.now c.args.base.now c.args.shadow.now in
    let file = c.args.file.now in
    let opening = c.args.opening.now in
    let no_cause : day_tree_cause given opening file ≡ 0 = sym c.tree_cause.ensures ∙ not_err _ c.in_default.not-Err in
    let allowed = tree_accepts given opening file no_cause in
    accepts given file allowed.1

pub run_file-requires-clause-has_answer_room : goal.run_file-requires-clause-has_answer_room
run_file-requires-clause-has_answer_room c = refl

pub open_base-requires : goal.open_base-requires
open_base-requires c =
    let given = ledger_of c.args.table.now c.args.base.now c.args.shadow.now in
    let file = c.args.file.now in
    let opening = c.args.opening.now in
    let no_cause : day_tree_cause given opening file ≡ 0 = sym c.tree_cause.ensures ∙ not_err _ c.in_default.not-Err in
    let allowed = tree_accepts given opening file no_cause in
    record { faultless = (accepts given file allowed.1).clean; base = allowed.0 }

pub put_report-requires-clause-has_report : goal.put_report-requires-clause-has_report
put_report-requires-clause-has_report c =
    let given = ledger_of c.args.table.now c.args.base.now c.args.shadow.now in
    let file = c.args.file.now in
    let opening = c.args.opening.now in
    let no_cause : day_tree_cause given opening file ≡ 0 = sym c.tree_cause.ensures ∙ not_err _ c.in_default.not-Err in
    let allowed = tree_accepts given opening file no_cause in
    has_report given opening file c.run_file.ensures.leaves c.open_base.ensures (accepts given file allowed.1)
    (c.open_base.auto.base ∙ allowed.0)

pub returns : goal.returns
returns c =
    let given = ledger_of c.args.table.now c.args.base.now c.args.shadow.now in
    let file = c.args.file.now in
    let opening = c.args.opening.now in
    let no_cause : day_tree_cause given opening file ≡ 0 = sym c.tree_cause.ensures ∙ not_err _ c.in_default.not-Err in
    tree_runs given opening file c.run_file.ensures.leaves c.open_base.ensures _ no_cause (search rules)
    (search rules)
