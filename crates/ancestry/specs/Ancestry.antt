-- What a walk up the parents asks of its caller, and how it counts. Assumes nothing.
use Rattle.std.specs.Prelude.{ℕ, ◌+◌, ◌≤◌, ◌<◌, ◌≡◌, true, List, length}
use Rattle.rules.specs.Card.{account_count}
use Rattle.rules.specs.Table.{table_length, most_actions, highest, parent_of, is_live}
use Rattle.rules.specs.Walk.{Climbs}
use Rattle.rules.specs.Sound.{IsGiven, Sound}
use Rattle.rules.specs.declared.Version.{Version}
use Rattle.rules.specs.Nearest.{moves_up}

-- a walk up the parents of w stays inside the table, and from a live action it ends at the store
pub record LiveClimb (w : List ℕ) : Type 0 where
  pub long : length w ≡ table_length
  pub few : highest w ≤ most_actions
  pub known : (m : ℕ) → IsGiven w m → parent_of w m ≤ highest w
  pub climb : (m : ℕ) → IsGiven w m → is_live w m ≡ true → Climbs w m

-- account k can be read from n: w is sound, n is a live action of it or the store, and k is an account
pub record Readable (w : List ℕ) (n k : ℕ) : Type 0 where
  pub sound : Sound w
  pub known : n ≤ highest w
  pub alive : 1 ≤ n → is_live w n ≡ true
  pub account : k < account_count

-- the moves made on the way to n and those that are left from there are together no more than there can be actions
abbrev pub HasMovesLeft : List ℕ → ℕ → ℕ → ℕ → Type 0
HasMovesLeft w n k made = made + moves_up w n k ≤ most_actions

-- RULES 3.1: a version seen from so many moves further down
abbrev pub counted_on : ℕ → Version → Version
counted_on made v = record { holder = v.holder; moves = made + v.moves }
