-- RULES 4.8: what is claimed of the order of a commit's turns. Whoever looks between two of them finds, from some account up,
-- what the whole commit leaves, and below it what was there before; and what is left in the end doesn't tell the order.
-- Assumes nothing.
use Rattle.std.specs.Prelude.{ℕ, ◌≤◌, ◌<◌, ◌≡◌, true}
use Rattle.rules.specs.Range.{fold}
use Rattle.rules.specs.Card.{account_count, accounts, IsAccount, IsCharge, StoresFit}
use Rattle.rules.specs.Table.{parent_of, is_live}
use Rattle.rules.specs.Sound.{IsGiven, Sound}
use Rattle.rules.specs.Ledger.{Ledger}
use Rattle.rules.specs.Held.{held_card, held_sum}
use Rattle.rules.specs.Commit.{copy_one, copied_down, committed_under}

-- p holds the same for account j in two ledgers: the same card and, of a charge account, the same sum
pub record HoldsSame (p j : ℕ) (s t : Ledger) : Type 0 where
  pub card : held_card s.base s.shadow p j ≡ held_card t.base t.shadow p j
  pub sum : IsCharge j → held_sum s.table s.base p j ≡ held_sum t.table t.base p j

-- Of n's commit under p, once the accounts from k up have had their turn and no other has: for these p holds what it holds after
-- the whole commit, and for the others what it held before.
pub record LastFirst (s : Ledger) (n p k : ℕ) : Type 0 where
  pub from_here_up : (j : ℕ) → IsAccount j → k ≤ j → HoldsSame p j (copied_down s n p k) (committed_under s n p)
  pub below : (j : ℕ) → IsAccount j → j < k → HoldsSame p j (copied_down s n p k) s

-- It is so after every turn, also after none, of the commit of any live action of any sound table.
abbrev pub CopiesLastFirst : Type 0
CopiesLastFirst =
    (s : Ledger) → Sound s.table → StoresFit s.base s.shadow →
    (n : ℕ) → IsGiven s.table n → is_live s.table n ≡ true → (k : ℕ) →
    k ≤ account_count → LastFirst s n (parent_of s.table n) k

-- With the accounts rising all turns together leave the same.
abbrev pub CopiesTellNoOrder : Type 0
CopiesTellNoOrder =
    (s : Ledger) → Sound s.table → StoresFit s.base s.shadow →
    (n : ℕ) → IsGiven s.table n → is_live s.table n ≡ true →
    let p = parent_of s.table n in copied_down s n p 0 ≡ fold (λ k now. copy_one now n p k) accounts s
