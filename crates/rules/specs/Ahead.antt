-- RULES 4.12 and 4.13: forward validation, by what the actions that are still live have read. Assumes nothing.
use Rattle.std.specs.Prelude.{ℕ, ◌≤◌, ◌<◌, ◌≡◌, ◌≢◌, Bool, true, not, cond, ◌&&◌, List, [], ◌∷◌, Option, Some, None}
use Rattle.rules.specs.declared.Found.{Found}
use Rattle.rules.specs.Found.{found_at}
use Rattle.rules.specs.Card.{account_count, accounts}
use Rattle.rules.specs.Table.{parent_of, has_read, has_written, is_live, actions}
use Rattle.rules.specs.Walk.{is_at_or_below, is_under}
use Rattle.rules.specs.Sound.{IsGiven, IsLiveAction}

-- RULES 4.12: m is a rival of n: live and below n's parent, at whatever depth, and neither n nor below n. Whether m is live comes
-- first: the parents of finished actions may run in a ring.
unfoldable pub is_rival : List ℕ → ℕ → ℕ → Bool
is_rival w n m =
    let elsewhere = is_under w (parent_of w n) m && not (is_at_or_below w n m) in
    is_live w m && elsewhere

-- m has read account k, which n has written; asked of rivals here, and in RULES 4.7 of siblings who wait
abbrev pub is_read_ahead : List ℕ → ℕ → ℕ → ℕ → Bool
is_read_ahead w n m k = has_written w n k && has_read w m k

-- m and the first of the accounts ks that m has read and n has written
unfoldable pub ahead_over : List ℕ → ℕ → ℕ → List ℕ → Option Found
ahead_over w n m [] = None
ahead_over w n m (k ∷ ks) =
    let rest = ahead_over w n m ks in
    cond (is_read_ahead w n m k) (found_at m k) rest

-- m and the first account over which it is a reader ahead of n
unfoldable pub ahead_by : List ℕ → ℕ → ℕ → Option Found
ahead_by w n m =
    let found = ahead_over w n m accounts in
    cond (is_rival w n m) found None

-- the first that is found
abbrev pub or_else : Option Found → Option Found → Option Found
or_else None later = later
or_else (Some f) later = Some f

-- the first of the actions ms that is a reader ahead of n, and its account
unfoldable pub ahead_among : List ℕ → ℕ → List ℕ → Option Found
ahead_among w n [] = None
ahead_among w n (m ∷ ms) = or_else (ahead_by w n m) (ahead_among w n ms)

-- RULES 4.13: the first reader ahead of action n, which its commit answers under rule 2: its number and the account
unfoldable pub first_ahead : List ℕ → ℕ → Option Found
first_ahead w n = ahead_among w n (actions w)

-- ---- the same as facts (proofs/Clash/Rivals.antt and Readers.antt)

-- RULES 4.12: a rival, in document 02's words: m is a live sibling of n, or live and below one
pub record BySibling (w : List ℕ) (n m : ℕ) : Type 0 where
  pub lives : IsLiveAction w m
  pub sibling : ℕ
  pub sibling_lives : IsLiveAction w sibling
  pub same_parent : parent_of w sibling ≡ parent_of w n
  pub other : sibling ≢ n
  pub at_or_below : is_at_or_below w sibling m ≡ true

-- RULES 4.12: m is a reader ahead of n over account k
pub record ReaderAhead (w : List ℕ) (n m k : ℕ) : Type 0 where
  pub given : IsGiven w m
  pub rival : is_rival w n m ≡ true
  pub account : k < account_count
  pub met : is_read_ahead w n m k ≡ true

-- RULES 4.13: it is the first: no reader ahead has a lower number, and m is none over a lower account
pub record IsFirstAhead (w : List ℕ) (n m k : ℕ) : Type 0 where
  pub reader : ReaderAhead w n m k
  pub lowest : (u l : ℕ) → ReaderAhead w n u l → m ≤ u
  pub lowest_account : (l : ℕ) → ReaderAhead w n m l → k ≤ l
