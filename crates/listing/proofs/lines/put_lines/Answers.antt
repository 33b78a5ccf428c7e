-- The loop's invariant: the lines of the first `i` answers are put. There is room for the next line since no line is longer
-- than line_length. Assumes nothing.
use Prim.Native.Nat.{◌<◌, ◌+◌}
use native.Mathlib.Omega.{arith}
use mathlib.Core.Path.{◌≡◌}
use Rattle.listing.specs.Buffer.{lines_of}
use Rattle.text.proofs.Texts.{writes_then, writes_nothing}
use Rattle.listing.proofs.Pieces.{lines_next}
use Rattle.listing.proofs.Bounds.{line_fits}
use Rattle.listing.proofs.AnswerRows.{line_of_row}
use Rattle.listing.proofs.lines.put_lines.Goals as goal

pub loop-i-init : goal.loop-i-init
unfolding lines_of
loop-i-init c = (omega arith, writes_nothing _)

pub put_line-requires : goal.put_line-requires
put_line-requires c =
    let loop = c.loop-i in
    let inside : loop.i < c.args.count = omega (arith, c.loop-i-test.true, c.rows-answer-items.ensures.many) in
    rw (line_of_row c.rows-answer-items.ensures loop.i inside (loop.i + 1))
    (omega (arith, loop.invariant.1, c.requires, line_fits c.args.answers.now loop.i (omega (arith, inside, c.requires.has_answers.0))))

pub loop-i-preserved : goal.loop-i-preserved
loop-i-preserved c =
    let loop = c.loop-i in
    let inside : loop.i < c.args.count = omega (arith, c.loop-i-test.true, c.rows-answer-items.ensures.many) in
    let line = rw (line_of_row c.rows-answer-items.ensures loop.i inside _) at c.put_line.ensures in
    (omega arith, rw lines_next (writes_then loop.invariant.1 line))

pub returns : goal.returns
returns c =
    let whole : c.loop-i.i ≡ c.args.count =
    omega (arith, c.loop-i.invariant.0, c.loop-i-test.false, c.rows-answer-items.ensures.many) in
    rw whole at c.loop-i.invariant.1
