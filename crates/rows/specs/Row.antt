-- What the functions on rows ask of their callers. Assumes nothing.
use Rattle.std.specs.Prelude.{ℕ, ◌+◌, ◌-◌, ◌≤◌, ◌≡◌, ◌≢◌, cond, List, eqb, length, Option, None, Some}
use Rattle.rules.specs.Range.{up_from}
use Rattle.rules.specs.Card.{account_count}
use Rattle.rules.specs.Table.{width, table_length, most_actions, highest}

-- w has a table's length, and n is the number of one of its rows
pub record HasRow (w : List ℕ) (n : ℕ) : Type 0 where
  pub long : length w ≡ table_length
  pub known : n ≤ most_actions

-- w has a table's length, and its highest number is that of a row: a scan of its actions stays inside
pub record Scannable (w : List ℕ) : Type 0 where
  pub long : length w ≡ table_length
  pub few : highest w ≤ most_actions

-- two rows are not the same
abbrev pub AreTwo : ℕ → ℕ → Type 0
AreTwo n p = n ≢ p

-- a row has a field for each account: that of account k is field first + k
abbrev pub HasAccountFields : ℕ → Type 0
HasAccountFields first = first + account_count ≤ width

-- the accounts from one on
abbrev pub IsFirstAccount : ℕ → Type 0
IsFirstAccount from = from ≤ account_count

abbrev pub accounts_from : ℕ → List ℕ
accounts_from from = up_from from (account_count - from)

-- the number of an action or a position as the code holds it: none where it is 0
abbrev pub numbered : ℕ → Option ℕ
numbered n = cond (eqb n 0) None (Some n)
