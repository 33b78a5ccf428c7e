-- `put_report` puts the text that the report's words give, which is the tree's. Assumes nothing.
use native.Mathlib.Omega.{arith}
use mathlib.Core.Path.{refl, sym}
use Rattle.rules.proofs.Laws.Refusals.{is_accepted}
use Rattle.dayfile.proofs.DayTree.{not_refused, lines_few, lines_given, words_whole, text_given}
use Rattle.dayfile.proofs.tree.put_report.Goals as goal

pub unwrap-lines-requires : goal.unwrap-lines-requires
unwrap-lines-requires c = is_accepted _ (not_refused _ _ _ _ c.requires.has_report _ refl c.report.ensures)

pub slice_bounds-put_tree-end : goal.slice_bounds-put_tree-end
slice_bounds-put_tree-end c =
    sym (words_whole _ _ _ _ c.requires.has_report _ refl (rw c.unwrap-lines.ensures at c.report.ensures))

pub put_tree-requires : goal.put_tree-requires
put_tree-requires c =
    let has = c.requires.has_report in
    let given = rw c.unwrap-lines.ensures at c.report.ensures in
    let lines = lines_given _ _ _ _ has _ refl given in
    record {
      has_lines = (words_whole _ _ _ _ has _ refl given, omega (arith, lines, lines_few _ _ _ _ has));
      room = c.requires.room;
    }

pub returns : goal.returns
returns c =
    let given = rw c.unwrap-lines.ensures at c.report.ensures in
    rw (text_given _ _ _ _ c.requires.has_report _ refl given) at c.put_tree.ensures
