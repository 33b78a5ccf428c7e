-- `total` adds two words up. Assumes nothing.
use native.Mathlib.Omega.{arith}
use mathlib.Core.Path.{refl, ◌∙◌}
use Rattle.amounts.proofs.Sums.{room_for_second, value_of_two}
use Rattle.report.proofs.total.total.Goals as goal

pub plus-requires : goal.plus-requires
plus-requires c = rw c.of_word.ensures (room_for_second c.own_adds.result (omega arith))

pub returns : goal.returns
returns c =
    let kept = c.kept in
    let own = c.own_adds in
    rw (c.plus.ensures, c.of_word.ensures)
    (value_of_two own.result kept.result (omega arith) (omega arith) ∙ rw (own.ensures, kept.ensures) refl)
