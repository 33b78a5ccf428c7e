-- `put_line` puts a line's first three words and then its figures. Assumes nothing.
use native.Mathlib.Numerals.{add-one, add-two, add-three}
use native.Mathlib.Omega.{arith}
use mathlib.Core.Path.{ap, ◌∙◌}
use lib.ListN.{length, length-set}
use lib.Seq.{length-sets}
use Rattle.rules.specs.Tree.{line_words}
use Rattle.report.proofs.lines.put_line.Goals as goal

pub bounds-report-at-2 : goal.bounds-report-at-2
bounds-report-at-2 c = simp length-set (omega arith)

pub bounds-report-at-3 : goal.bounds-report-at-3
bounds-report-at-3 c = simp length-set (omega arith)

pub put_figures-requires-clause-figures_fit : goal.put_figures-requires-clause-figures_fit
put_figures-requires-clause-figures_fit c = c.requires.figures_fit

pub put_figures-requires-clause-has_line : goal.put_figures-requires-clause-has_line
put_figures-requires-clause-has_line c = c.requires.has_line

pub put_figures-requires-clause-has_room_for : goal.put_figures-requires-clause-has_room_for
put_figures-requires-clause-has_room_for c = simp length-set (omega arith)

pub shape_of-report : goal.shape_of-report
shape_of-report c = ap length c.put_figures.ensures ∙ simp (length-sets, length-set)

pub returns : goal.returns
unfolding line_words
returns c =
    let args = c.args in
    rw (c.put_figures.ensures, add-one args.at, add-two args.at, add-three args.at, ← c.state.ensures)
