-- `day` meets its contract: a refused day puts its one line, any other is run and listed. Assumes nothing.
use Rattle.std.proofs.Common.{rules}
use native.Mathlib.Omega.{arith}
use mathlib.Core.Path.{◌≡◌, refl, sym, ap, ◌∙◌}
use lib.ListN.{length}
use Rattle.rules.specs.Ledger.{Ledger, ledger_of}
use Rattle.rules.proofs.Laws.Refusals.{never_none, not_err}
use Rattle.listing.proofs.Bounds.{refused_fits}
use Rattle.dayread.proofs.Faultless.{faultless}
use Rattle.dayfile.specs.Day.{day_cause}
use Rattle.dayfile.proofs.Days.{accepts, day_refused, day_runs, lines_of_day, day_given}
use Rattle.dayfile.proofs.day.day.Goals as goal

pub put_refused-requires : goal.put_refused-requires
put_refused-requires c = omega (arith, c.new-text.ensures.front, ap length c.new-text.ensures.kept, refused_fits c.from.result)

pub returns-in-Err : goal.returns-in-Err
returns-in-Err c =
    let given = c.args in
    let s = ledger_of given.table.now given.base.now given.shadow.now in
    let refused = day_refused s given.file.now c.in-Err.ensures (never_none c.in-Err.refusal) in
    day_given s given.file.now given.out.now
    (rw refused.0 (search rules)) (rw refused.0 (search rules)) (rw refused.1)

-- behind the first test the day has no cause, and so it is run
pub run_file-count-requires-clause-accepts : goal.run_file-count-requires-clause-accepts
run_file-count-requires-clause-accepts c =
    let given = ledger_of c.args.table.now c.args.base.now c.args.shadow.now in
    let file = c.args.file.now in
    let no_cause : day_cause given file ≡ 0 = sym c.day_cause.ensures ∙ not_err _ c.in_default.not-Err in
    accepts given file no_cause

pub run_file-count-requires-clause-has_answer_room : goal.run_file-count-requires-clause-has_answer_room
run_file-count-requires-clause-has_answer_room c = refl

pub put_listing-requires : goal.put_listing-requires
put_listing-requires c =
    let given = ledger_of c.args.table.now c.args.base.now c.args.shadow.now in
    let file = c.args.file.now in
    let no_cause : day_cause given file ≡ 0 = sym c.day_cause.ensures ∙ not_err _ c.in_default.not-Err in
    let f = faultless file (accepts given file no_cause).clean in
    record {
      has_answers = (
        omega (arith, c.run_file-count.ensures.count, f.few_events),
        omega (arith, c.run_file-count.ensures.count, f.few_events),
      );
      room = omega (arith, c.new-text.ensures.front, ap length c.new-text.ensures.kept);
    }

pub returns : goal.returns
returns c =
    let given = ledger_of c.args.table.now c.args.base.now c.args.shadow.now in
    let file = c.args.file.now in
    let no_cause : day_cause given file ≡ 0 = sym c.day_cause.ensures ∙ not_err _ c.in_default.not-Err in
    let runs = day_runs given file no_cause in
    let leaves = c.run_file-count.ensures.leaves in
    let table = ap (λ (after : Ledger). after.table) leaves in
    let lines =
    lines_of_day given file _ (accepts given file no_cause) c.run_file-count.ensures.answers c.run_file-count.ensures.count table
    in
    day_given given file _
    (rw (runs.0, sym lines) (search rules))
    (rw (runs.0, sym lines) (search rules))
    (rw runs.1 leaves)
