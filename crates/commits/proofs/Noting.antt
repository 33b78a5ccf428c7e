-- The end time of an action noted in another row, account by account: what is noted for the accounts to come goes by words that are
-- as they were. Assumes nothing.
use Prim.Native.Nat.{ℕ, ◌+◌, ◌≤◌}
use native.Mathlib.Omega.{arith}
use mathlib.Core.Path.{◌≡◌, ◌∙◌}
use mathlib.Core.Logic.{◌≢◌}
use mathlib.Core.List.{List}
use Rattle.rules.specs.Card.{IsAccount}
use Rattle.rules.specs.Table.{parent_field, end_field, write_field, newest_field, with_newest}
use Rattle.rules.specs.Commit.{newest_after}
use Rattle.rules.proofs.Laws.Words.{word_other_row, word_other_field}
use Rattle.rows.specs.Times.{IsChild}

-- from account k on, the present table has row p note the same end times as w
abbrev pub SameNotes : List ℕ → ℕ → ℕ → ℕ → List ℕ → Type 0
SameNotes w n p k now = (j : ℕ) → k ≤ j → IsAccount j → newest_after now n p j ≡ newest_after w n p j

module _ (now : List ℕ) (n p k v : ℕ) (apart : n ≢ p) (account : IsAccount k) where
  pub same_notes_next : (w : List ℕ) → SameNotes w n p k now → SameNotes w n p (k + 1) (with_newest now p k v)
  same_notes_next w same j later is =
      rw (
        word_other_row now p n (newest_field k) (write_field j) v (omega arith) (omega arith) apart,
        word_other_row now p n (newest_field k) end_field v (omega arith) (omega arith) apart,
        word_other_field now p (newest_field k) (newest_field j) v (λ z. omega arith),
      )
      (same j (omega arith) is)

  pub child_still : IsChild now n p → IsChild (with_newest now p k v) n p
  child_still child = word_other_row now p n (newest_field k) parent_field v (omega arith) (omega arith) apart ∙ child
