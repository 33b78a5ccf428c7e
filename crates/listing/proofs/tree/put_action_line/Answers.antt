-- `put_action_line` meets its contract: the depth, the number, the state's word, the figures and a line feed are put, each right
-- behind the one before. Assumes nothing.
use native.Mathlib.Omega.{arith}
use mathlib.Core.Path.{ap}
use lib.ListN.{length}
use Rattle.listing.specs.Report.{line_at_place, line_figures}
use Rattle.text.proofs.Texts.{writes_then}
use Rattle.listing.proofs.Pieces.{spaced_one}
use Rattle.listing.proofs.TreePieces.{length_of_line}
use Rattle.listing.proofs.TreeRows.{figures_behind}
use Rattle.listing.proofs.tree.put_action_line.Goals as goal

pub put_signeds-requires : goal.put_signeds-requires
put_signeds-requires c =
    rw (figures_behind c.args.line.now 3 line_figures (omega arith))
    (omega (arith, c.put_text.ensures, c.put_byte.ensures, c.put_spaced.ensures, c.put_number.ensures, ap length c.state_word.ensures, c.requires, length_of_line c.args.line.now 0))

pub put_byte-requires-2 : goal.put_byte-requires-2
put_byte-requires-2 c =
    let figures = rw (figures_behind c.args.line.now 3 line_figures (omega arith)) at c.put_signeds.ensures in
    omega (arith, figures, c.put_text.ensures, c.put_byte.ensures, c.put_spaced.ensures, c.put_number.ensures, ap length c.state_word.ensures, c.requires, length_of_line c.args.line.now 0)

pub returns : goal.returns
unfolding line_at_place
returns c =
    let figures = rw (figures_behind c.args.line.now 3 line_figures (omega arith)) at c.put_signeds.ensures in
    let state = rw c.state_word.ensures at c.put_text.ensures in
    rw spaced_one
    (writes_then
    (writes_then
    (writes_then (writes_then c.put_number.ensures c.put_spaced.ensures) (writes_then c.put_byte.ensures state))
    figures)
    c.put_byte-2.ensures)
