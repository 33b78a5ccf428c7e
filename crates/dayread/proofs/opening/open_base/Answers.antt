-- `open_base` meets its contract: the opening base store is the present store with the cards from `i` on put into it, `i` the
-- entry at the loop's head; a file without a fault has each card whole and at a known account. Assumes nothing.
use native.Mathlib.Nat.{sub-zero}
use native.Mathlib.Omega.{arith}
use mathlib.Core.Path.{sym, ◌∙◌}
use Rattle.rules.proofs.Laws.Ranges.{fold_left_next, fold_left_done}
use Rattle.dayread.specs.Opening.{opening_base}
use Rattle.dayread.proofs.Faultless.{faultless}
use Rattle.dayread.proofs.opening.open_base.Goals as goal

pub byte_at-count-requires : goal.byte_at-count-requires
byte_at-count-requires c = (faultless _ c.requires.faultless).nonempty

pub loop-i-init : goal.loop-i-init
unfolding opening_base
loop-i-init c =
    let fits = c.requires.base in
    (omega arith, omega arith, rw (sub-zero, c.byte_at-count.ensures.value, c.fill.ensures.after (λ y same. same), fits))

pub put_opening-requires : goal.put_opening-requires
put_opening-requires c =
    let correct = faultless _ c.requires.faultless in
    record { i_lt_most_cards = omega arith; account = correct.account_known _ (omega arith); base = omega arith }

pub loop-i-preserved : goal.loop-i-preserved
loop-i-preserved c = (
  omega arith,
  omega arith,
  rw c.put_opening.ensures
      (c.loop-i.invariant.2
      ∙ fold_left_next _ _ _ _ c.loop-i-test.true),
)

pub returns : goal.returns
returns c = sym (c.loop-i.invariant.2 ∙ fold_left_done _ _ _ _ c.loop-i-test.false)
