-- `put_balance_line` meets its contract: the account, its figures and a line feed are put, each right behind the one before.
-- Assumes nothing.
use native.Mathlib.Omega.{arith}
use Rattle.listing.specs.Report.{balance_at_place, balance_figures}
use Rattle.text.proofs.Texts.{writes_then}
use Rattle.listing.proofs.TreePieces.{length_of_balance}
use Rattle.listing.proofs.TreeRows.{figures_behind}
use Rattle.listing.proofs.tree.put_balance_line.Goals as goal

pub put_signeds-requires : goal.put_signeds-requires
put_signeds-requires c =
    rw (figures_behind c.args.line.now 1 balance_figures (omega arith))
    (omega (arith, c.put_number.ensures, c.requires, length_of_balance c.args.line.now 0))

pub put_byte-requires : goal.put_byte-requires
put_byte-requires c =
    let figures = rw (figures_behind c.args.line.now 1 balance_figures (omega arith)) at c.put_signeds.ensures in
    omega (arith, figures, c.put_number.ensures, c.requires, length_of_balance c.args.line.now 0)

pub returns : goal.returns
unfolding balance_at_place
returns c =
    let figures = rw (figures_behind c.args.line.now 1 balance_figures (omega arith)) at c.put_signeds.ensures in
    writes_then (writes_then c.put_number.ensures figures) c.put_byte.ensures
