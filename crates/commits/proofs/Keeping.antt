-- The totals of an action kept in another row, account by account: what is kept for the accounts to come is made of words that
-- are as they were. Assumes nothing.
use Prim.Native.Nat.{ℕ, ◌≤◌, ◌+◌}
use native.Mathlib.Omega.{arith}
use mathlib.Core.Path.{◌≡◌}
use mathlib.Core.Logic.{◌≢◌}
use mathlib.Core.List.{List}
use Rattle.rules.specs.Card.{IsCharge}
use Rattle.rules.specs.Table.{own_adds_field, kept_field, with_kept, kept_after}
use Rattle.rules.proofs.Laws.Words.{word_other_row, word_other_field}

-- from account k on, the present table makes the same sums as w, which row p is to keep with n's totals
abbrev pub SameFrom : List ℕ → ℕ → ℕ → ℕ → List ℕ → Type 0
SameFrom w n p k now = (j : ℕ) → k ≤ j → IsCharge j → kept_after now n p j ≡ kept_after w n p j

pub same_next :
    (w now : List ℕ) (n p k v : ℕ) → n ≢ p → IsCharge k → SameFrom w n p k now → SameFrom w n p (k + 1) (with_kept now p k v)
same_next w now n p k v apart charge same j later is =
    rw (
      word_other_field now p (kept_field k) (kept_field j) v (λ z. omega arith),
      word_other_row now p n (kept_field k) (kept_field j) v (omega arith) (omega arith) apart,
      word_other_row now p n (kept_field k) (own_adds_field j) v (omega arith) (omega arith) apart,
    )
    (same j (omega arith) is)
