-- `is_amount` tells whether 64 signed bits hold a sum: the signs that no carry makes good are none, or one where the low word
-- has the sign itself. Assumes nothing.
use Prim.Native.Nat.{◌-◌, ◌≤◌, ◌<◌}
use native.Mathlib.Omega.{arith}
use mathlib.Core.Path.{◌≡◌, sym, ◌∙◌}
use mathlib.Core.Bool.{false}
use lib.Dec.{eqb}
use borrow.Author.Tests.{eqb-true, eq-eqb, le-ltb}
use Rattle.rules.specs.Amount.{is_amount}
use Rattle.rules.proofs.Laws.Tests.{same_test, false_of_not_true}
use Rattle.rules.proofs.Laws.Integers.{up_or_dn}
use Rattle.rules.proofs.Laws.Amounts.{amount_holds}
use Rattle.amounts.specs.declared.sum.Sum.{Sum}
use Rattle.amounts.specs.Sum.{word_values, first_negative, value_of}
use Rattle.amounts.proofs.Sums.{value_parts}
use Rattle.amounts.proofs.sum.is_amount.Goals as goal

module _ (s : Sum) where
  without_sign : s.low < first_negative → eqb s.carries s.negatives ≡ is_amount (value_of s)
  without_sign low =
      same_test (eqb s.carries s.negatives) (is_amount (value_of s))
      (λ e. (amount_holds (value_of s)).1 (omega (arith, eqb-true, value_parts s, up_or_dn (value_of s))))
      (λ is. eq-eqb s.carries s.negatives (omega (arith, (amount_holds (value_of s)).0 is, value_parts s)))

  with_sign :
      first_negative ≤ s.low → s.low < word_values → s.carries < s.negatives →
      eqb (s.negatives - s.carries) 1 ≡ is_amount (value_of s)
  with_sign high fits more =
      same_test (eqb (s.negatives - s.carries) 1) (is_amount (value_of s))
      (λ e. (amount_holds (value_of s)).1 (omega (arith, eqb-true, value_parts s, up_or_dn (value_of s))))
      (λ is. eq-eqb (s.negatives - s.carries) 1 (omega (arith, (amount_holds (value_of s)).0 is, value_parts s)))

  too_large : first_negative ≤ s.low → s.negatives ≤ s.carries → is_amount (value_of s) ≡ false
  too_large high few =
      false_of_not_true (is_amount (value_of s)) (λ is. omega (arith, (amount_holds (value_of s)).0 is, value_parts s))

pub returns-then-sum-lt-SIGN : goal.returns-then-sum-lt-SIGN
returns-then-sum-lt-SIGN c = without_sign c.args.sum (omega arith)

pub returns-then-sum : goal.returns-then-sum
returns-then-sum c = with_sign c.args.sum (omega arith) (omega arith) (omega arith)

pub returns-else-sum : goal.returns-else-sum
returns-else-sum c = le-ltb c.args.sum.carries c.args.sum.negatives (omega arith) ∙ sym (too_large c.args.sum (omega arith) (omega arith))
