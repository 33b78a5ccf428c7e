-- `put_numbers` meets its contract: it puts the numbers that the kind has, the second right behind the first. Assumes nothing.
use native.Mathlib.Omega.{arith}
use mathlib.Core.Path.{sym, ap}
use lib.ListN.{length, length-append}
use Rattle.text.proofs.Texts.{writes_then, writes_nothing}
use Rattle.listing.proofs.Pieces.{no_numbers, two_numbers, one_number, first_fits}
use Rattle.listing.proofs.lines.put_numbers.Goals as goal

pub returns-then-has_no_numbers : goal.returns-then-has_no_numbers
returns-then-has_no_numbers c = rw (no_numbers _ _ _ (sym c.if-has_no_numbers.ensures)) (writes_nothing _)

pub put_spaced-requires : goal.put_spaced-requires
put_spaced-requires c =
    let a = c.args in
    omega (arith, first_fits a.kind a.first a.second (sym c.if-has_no_numbers.ensures))

pub put_spaced-requires-then-has_two_numbers : goal.put_spaced-requires-then-has_two_numbers
put_spaced-requires-then-has_two_numbers c =
    let a = c.args in
    let both = two_numbers a.kind a.first a.second (sym c.if-has_no_numbers.ensures) (sym c.if-has_two_numbers.ensures) in
    omega (arith, simp length-append at (ap length both))

pub returns-then-has_two_numbers : goal.returns-then-has_two_numbers
returns-then-has_two_numbers c =
    rw (two_numbers _ _ _ (sym c.if-has_no_numbers.ensures) (sym c.if-has_two_numbers.ensures))
    (writes_then c.put_spaced.ensures c.put_spaced-then-has_two_numbers.ensures)

pub returns-else-has_two_numbers : goal.returns-else-has_two_numbers
returns-else-has_two_numbers c =
    rw (one_number _ _ _ (sym c.if-has_no_numbers.ensures) (sym c.if-has_two_numbers.ensures)) c.put_spaced.ensures
