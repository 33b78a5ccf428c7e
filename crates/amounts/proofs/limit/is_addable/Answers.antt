-- `is_addable` tells whether an event may add the amount that a word is. Assumes nothing.
use Prim.Native.Nat.{ℕ, ◌-◌, ◌<◌}
use native.Mathlib.Omega.{arith}
use mathlib.Core.Path.{◌≡◌}
use mathlib.Core.Bool.{true}
use Rattle.std.proofs.Common.{rules}
use lib.Dec.{ltb}
use borrow.Author.Tests.{ltb-true, lt-ltb}
use Rattle.rules.specs.Amount.{most_added, amount_of, is_addable}
use Rattle.rules.proofs.Laws.Tests.{same_test}
use Rattle.rules.proofs.Laws.Integers.{up_or_dn}
use Rattle.rules.proofs.Laws.Amounts.{word_parts, addable_holds}
use Rattle.amounts.specs.Sum.{word_values}
use Rattle.amounts.proofs.limit.is_addable.Goals as goal

below_zero : (x : ℕ) → x < word_values → most_added < x → ltb (word_values - 1 - x) most_added ≡ is_addable (amount_of x)
below_zero x fits more =
    same_test (ltb (word_values - 1 - x) most_added) (is_addable (amount_of x))
    (λ few. (addable_holds (amount_of x)).1 (omega (arith, ltb-true, word_parts x fits, up_or_dn (amount_of x))))
    (λ is. lt-ltb (word_values - 1 - x) most_added (omega (arith, (addable_holds (amount_of x)).0 is, word_parts x fits)))

pub returns-then-from_zero : goal.returns-then-from_zero
returns-then-from_zero c =
    let x = c.args.word in
    let is : is_addable (amount_of x) ≡ true = (addable_holds (amount_of x)).1 (omega (arith, word_parts x (omega arith), up_or_dn (amount_of x))) in
    rw is (search rules)

pub returns-else-from_zero : goal.returns-else-from_zero
returns-else-from_zero c = below_zero c.args.word (omega arith) (omega arith)
