-- The loop's invariant: the block's lines so far are put. Assumes nothing.
use Prim.Native.Nat.{◌<◌}
use native.Mathlib.Omega.{arith}
use mathlib.Core.Path.{◌≡◌}
use Rattle.rules.specs.Card.{charge_count}
use Rattle.rules.specs.Tree.{balance_length, block_place}
use Rattle.listing.specs.Report.{balance_at_place, lines_every}
use Rattle.text.proofs.Texts.{writes_then, writes_nothing}
use Rattle.listing.proofs.TreePieces.{lines_next, next_fits}
use Rattle.listing.proofs.TreeRows.{balance_of_row}
use Rattle.listing.proofs.tree.put_balance_lines.Goals as goal

pub loop-line-init : goal.loop-line-init
unfolding lines_every
loop-line-init c = (omega arith, writes_nothing _)

pub put_balance_line-requires : goal.put_balance_line-requires
put_balance_line-requires c =
    let words = c.args.words.now in
    let i = c.loop-line.line-index in
    let inside : i < charge_count = omega (arith, c.loop-line-test.true, c.rows-line-items.ensures.many) in
    let room = next_fits balance_length (balance_at_place words) block_place i charge_count inside in
    rw (balance_of_row words _ i (omega (arith, c.requires.whole)) inside c.rows-line-items.ensures)
    (omega (arith, c.loop-line.invariant.1, c.requires.fits, room))

pub loop-line-preserved : goal.loop-line-preserved
loop-line-preserved c =
    let words = c.args.words.now in
    let i = c.loop-line.line-index in
    let inside : i < charge_count = omega (arith, c.loop-line-test.true, c.rows-line-items.ensures.many) in
    let line = rw (balance_of_row words _ i (omega (arith, c.requires.whole)) inside c.rows-line-items.ensures)
    at c.put_balance_line.ensures in
    (omega arith, rw lines_next (writes_then c.loop-line.invariant.1 line))

pub returns : goal.returns
returns c =
    let whole : c.loop-line.line-index ≡ charge_count =
    omega (arith, c.loop-line.invariant.0, c.loop-line-test.false, c.rows-line-items.ensures.many) in
    rw whole at c.loop-line.invariant.1
