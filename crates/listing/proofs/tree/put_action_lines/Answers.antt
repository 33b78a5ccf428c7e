-- The loop's invariant: the lines so far are put. Assumes nothing.
use Prim.Native.Nat.{◌*◌, ◌<◌}
use native.Mathlib.Nat.{zero-add}
use native.Mathlib.Omega.{arith}
use mathlib.Core.Path.{◌≡◌}
use Rattle.rules.specs.Tree.{line_length}
use Rattle.listing.specs.Report.{line_at_place, lines_every}
use Rattle.text.proofs.Texts.{writes_then, writes_nothing}
use Rattle.listing.proofs.TreePieces.{lines_next, next_fits}
use Rattle.listing.proofs.TreeRows.{line_of_row}
use Rattle.listing.proofs.tree.put_action_lines.Goals as goal

pub loop-line-init : goal.loop-line-init
unfolding lines_every
loop-line-init c = (omega arith, writes_nothing _)

pub put_action_line-requires : goal.put_action_line-requires
put_action_line-requires c =
    let words = c.args.words.now in
    let i = c.loop-line.line-index in
    let inside : i < c.args.lines = omega (arith, c.loop-line-test.true, c.rows-line-items.ensures.many) in
    let room = rw (zero-add (line_length * i)) at (next_fits line_length (line_at_place words) 0 i c.args.lines inside) in
    rw (line_of_row words i inside c.rows-line-items.ensures) (omega (arith, c.loop-line.invariant.1, c.requires.fits, room))

pub loop-line-preserved : goal.loop-line-preserved
loop-line-preserved c =
    let words = c.args.words.now in
    let i = c.loop-line.line-index in
    let inside : i < c.args.lines = omega (arith, c.loop-line-test.true, c.rows-line-items.ensures.many) in
    let line = rw (line_of_row words i inside c.rows-line-items.ensures) at c.put_action_line.ensures in
    (omega arith, rw (lines_next, zero-add (line_length * i)) (writes_then c.loop-line.invariant.1 line))

pub returns : goal.returns
returns c =
    let whole : c.loop-line.line-index ≡ c.args.lines =
    omega (arith, c.loop-line.invariant.0, c.loop-line-test.false, c.rows-line-items.ensures.many) in
    rw whole at c.loop-line.invariant.1
