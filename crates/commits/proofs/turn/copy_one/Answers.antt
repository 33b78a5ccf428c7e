-- `copy_one` by its tests: nothing, the card, or the sum, as `copy_one` says. Assumes nothing.
use native.Mathlib.Omega.{arith}
use borrow.Author.Rules.{rules}
use borrow.Author.Tests.{le-leb, lt-leb}
use Rattle.rules.specs.Card.{first_charge}
use Rattle.rules.specs.Commit.{copy_one}
use mathlib.Core.Path.{◌∙◌, sym}
use Rattle.commits.proofs.turn.copy_one.Goals as goal

pub returns-then-not-has_written : goal.returns-then-not-has_written
unfolding copy_one
returns-then-not-has_written c = rw (sym c.has_written.ensures ∙ c.if-not-has_written.true)

pub add_own_sum-requires : goal.add_own_sum-requires
add_own_sum-requires c =
    let written = sym c.has_written.ensures ∙ c.if-not-has_written.false in
    record { has_row = search rules; has_row_2 = search rules; base = search rules; charge = omega arith; makes_amount = c.requires.sum_fits (omega arith) written }

pub returns-then-k-lt-FIRST_CHARGE : goal.returns-then-k-lt-FIRST_CHARGE
unfolding copy_one
returns-then-k-lt-FIRST_CHARGE c =
    let args = c.args in
    rw (sym c.has_written.ensures ∙ c.if-not-has_written.false, lt-leb first_charge args.k c.if-k-lt-FIRST_CHARGE.true)
    (c.put_own_card.ensures args.table.now)

pub returns-else-k-lt-FIRST_CHARGE : goal.returns-else-k-lt-FIRST_CHARGE
unfolding copy_one
returns-else-k-lt-FIRST_CHARGE c =
    let args = c.args in
    rw (sym c.has_written.ensures ∙ c.if-not-has_written.false, le-leb first_charge args.k c.if-k-lt-FIRST_CHARGE.false)
    (c.add_own_sum.ensures args.shadow.now)
