-- `report` puts the lines under the store and the last block, where there is no cause. Assumes nothing.
use native.Mathlib.Nat.{zero-add}
use native.Mathlib.Omega.{arith}
use mathlib.Core.Path.{◌≡◌, sym, ap, ◌∙◌}
use mathlib.Core.List.{List}
use Prim.Native.Nat.{ℕ, ◌-◌, ◌≤◌}
use borrow.Author.Rules.{rules}
use borrow.Author.Tests.{ne_eqb}
use lib.ListN.{length}
use Rattle.std.specs.Prelude.{Result, Ok, Err, IsErrAnd}
use Rattle.std.specs.Result.{result_unwrap_or}
use Rattle.rules.specs.declared.refusal.Refusal.{Refusal}
use Rattle.rules.specs.Refusal.{refusal_number, refusal_of}
use Rattle.rules.proofs.Laws.Refusals.{never_none}
use Rattle.rules.specs.Table.{most_actions}
use Rattle.rules.specs.Sound.{Sound}
use Rattle.rules.specs.Tree.{tree_lines, tree_cause, with_report, report_of, report}
use Rattle.rules.proofs.Tree.Shown.{store_shown}
use Rattle.rules.proofs.Tree.Lines.{no_more_lines}
use Rattle.report.specs.Lined.{lines_from}
use Rattle.report.proofs.Causes.{reportable}
use Rattle.report.proofs.Lining.{lines_under, lined_length}
use Rattle.report.proofs.report.report.Goals as goal

-- the lines of the store's children are all lines
all_lines : (w : List ℕ) → tree_lines w ≡ lines_from (most_actions - 1) w 0 0 1
unfolding tree_lines
all_lines w = lines_under (most_actions - 1) w 0 0

few_lines : {w : List ℕ} → Sound w → length (lines_from (most_actions - 1) w 0 0 1) ≤ most_actions
few_lines {w} s = omega (arith, ap length (all_lines w), no_more_lines s, s.few)

-- a refusal that is passed up has no lines
refused :
    (w base shadow opening buffer : List ℕ) (answer : Result ℕ Refusal) (refusal : Refusal) → IsErrAnd answer (λ e. e ≡ refusal) →
    refusal_number refusal ≡ tree_cause w base shadow opening →
    report_of (refusal_of answer) (result_unwrap_or answer 0) buffer ≡ report w base shadow opening buffer
unfolding report
refused w base shadow opening buffer (Ok lines) refusal passed asked = absurd passed
refused w base shadow opening buffer (Err e) refusal passed asked = rw (passed, ← asked, ne_eqb _ 0 (never_none refusal))

pub returns-in_err-tree_cause : goal.returns-in_err-tree_cause
returns-in_err-tree_cause c = refused _ _ _ _ _ _ _ c.from_residual.ensures.1 c.in_err-tree_cause.ensures

pub put_list-lines-requires : goal.put_list-lines-requires
put_list-lines-requires c =
    let may = reportable _ _ _ _ (sym c.in_ok-tree_cause.ensures) in
    record { figures_fit = may.fit; shown = store_shown _; has_levels = omega arith; has_line_room = record { whole = search rules; room = omega (arith, few_lines may.accepted.1) } }

pub put_block-requires : goal.put_block-requires
put_block-requires c =
    let may = reportable _ _ _ _ (sym c.in_ok-tree_cause.ensures) in
    record { has_row = omega (arith, may.accepted.1.long); base = (may.accepted.0.base_fits, may.opens); report = lined_length _ c.put_list-lines.ensures ∙ search rules }

pub returns : goal.returns
unfolding report with_report
returns c =
    let args = c.args in
    let none = sym c.in_ok-tree_cause.ensures in
    let put = c.put_list-lines.ensures in
    rw (none, all_lines args.table.now, put.counted ∙ zero-add _, c.put_block.ensures, put.leaves)
