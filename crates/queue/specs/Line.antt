-- What the functions on a queue ask of their callers, and where an action stands in one. Assumes nothing.
use Rattle.std.specs.Prelude.{ℕ, ◌≤◌, ◌<◌, ◌≡◌, Bool, true, cond, List, [], ◌∷◌, length}
use Rattle.rules.specs.Range.{up_from}
use Rattle.rules.specs.Table.{table_length, most_actions}
use Rattle.rules.specs.Kind.{IsKind}
use Rattle.rules.specs.Queue.{queue_length, entry_at, is_of, is_queued}
use Rattle.rules.specs.Sound.{are_distinct, queue_numbers, IsGiven}

-- w has a table's length, h is the kind of those who wait in one of its queues, and each of its positions has a row
pub record HasLine (w : List ℕ) (h : ℕ) : Type 0 where
  pub long : length w ≡ table_length
  pub few : queue_length w h ≤ most_actions
  pub known : IsKind h

-- there is a row for one position more
abbrev pub HasRoom : List ℕ → ℕ → Type 0
HasRoom w h = queue_length w h < most_actions

-- no number stands in queue h twice
abbrev pub StandsOnce : List ℕ → ℕ → Type 0
StandsOnce w h = are_distinct (queue_numbers w h) ≡ true

-- whoever waits in queue h is an action of w
abbrev pub AreKnown : List ℕ → ℕ → Type 0
AreKnown w h = (m : ℕ) → is_queued w h m ≡ true → IsGiven w m

-- the first of these numbers of which f holds, 0 where it holds of none
unfoldable pub first : (ℕ → Bool) → List ℕ → ℕ
first f [] = 0
first f (x ∷ xs) = cond (f x) x (first f xs)

-- n stands at position i
abbrev pub stands_at : List ℕ → ℕ → ℕ → ℕ → Bool
stands_at w h n i = is_of n (entry_at w h i)

-- the first position of n in queue h, 0 where it has none
abbrev pub position_of : List ℕ → ℕ → ℕ → ℕ
position_of w h n = first (stands_at w h n) (up_from 1 (queue_length w h))
