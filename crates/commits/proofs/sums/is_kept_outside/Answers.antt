-- `is_kept_outside` tests what is kept at n's parent, or as the store's, with n's total. In a sound table a parent is below its
-- child, so it has a row. Assumes nothing.
use native.Mathlib.Omega.{arith}
use borrow.Author.Rules.{rules}
use Rattle.commits.proofs.sums.is_kept_outside.Goals as goal

pub kept_after-requires : goal.kept_after-requires
kept_after-requires c =
    let known = c.requires.sound.0.known c.args.n c.requires.sound.1 in
    record { has_row = search rules; has_row_2 = omega (arith, known, c.parent-p.ensures, c.requires.sound.0.few, c.requires.sound.0.long); charge = search rules }

pub returns : goal.returns
returns c = rw (c.is_amount.ensures, c.kept_after.ensures, c.parent-p.ensures)
