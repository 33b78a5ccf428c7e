-- `is_met_at` meets its contract: whoever stands at a position of a sound table's queue has a row. Assumes nothing.
use native.Mathlib.Omega.{arith}
use Rattle.rows.proofs.KindNumbers.{number_known}
use Rattle.judging.proofs.MetSiblings.{row_of_queued}
use Rattle.judging.proofs.verdict.is_met_at.Goals as goal

pub entry_number-requires : goal.entry_number-requires
entry_number-requires c =
    let few = (c.requires.sound.lines _ (number_known c.args.h)).short in
    record { long = c.requires.sound.long; known = omega (arith, c.requires.position.1, few) }

pub is_met_by-requires-clause-has_row_2 : goal.is_met_by-requires-clause-has_row_2
is_met_by-requires-clause-has_row_2 c =
    rw c.entry_number.ensures
    (row_of_queued _ _ (number_known c.args.h) _ c.requires.sound c.requires.position.0 c.requires.position.1)
