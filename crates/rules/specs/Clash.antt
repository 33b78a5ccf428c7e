-- RULES 4.2 and 4.3: clashes at a commit; document 01's term. Assumes nothing.
use Rattle.std.specs.Prelude.{ℕ, Bool, true, false, cond, ◌&&◌, ◌||◌, List, [], ◌∷◌, ◌++◌, ltb, leb, eqb, Option, Some, None}
use Rattle.rules.specs.declared.Found.{Found}
use Rattle.rules.specs.Found.{found_at}
use Rattle.rules.specs.Range.{filter}
use Rattle.rules.specs.Card.{accounts}
use Rattle.rules.specs.Table.{parent_of, kind_of, end_time, has_read, read_time, has_written, records}

-- RULES 4.2: action n clashes with record m over account k; the two times are of m's kind
abbrev pub is_clash : List ℕ → ℕ → ℕ → ℕ → Bool
is_clash w n m k = has_written w m k && has_read w n k && ltb (read_time w (kind_of w m) n k) (end_time w m)

-- a record and an account
pub record Pair : Type 0 where
  pub holder : ℕ
  pub account : ℕ

-- the record m with each of the accounts ks
unfoldable pub pairs_with : ℕ → List ℕ → List Pair
pairs_with m [] = []
pairs_with m (k ∷ ks) = record { holder = m; account = k } ∷ pairs_with m ks

-- each of the records ms with every account over which n clashes with it
unfoldable pub clashes_with : List ℕ → ℕ → List ℕ → List Pair
clashes_with w n [] = []
clashes_with w n (m ∷ ms) = pairs_with m (filter (is_clash w n m) accounts) ++ clashes_with w n ms

-- RULES 4.2: the clash list of action n
unfoldable pub clashes : List ℕ → ℕ → List Pair
clashes w n = clashes_with w n (records w (parent_of w n))

-- (t, k) comes before (u, l): by end time, and within one end time by account
abbrev pub is_before : ℕ → ℕ → ℕ → ℕ → Bool
is_before t k u l = ltb t u || eqb t u && leb k l

abbrev pub earlier : ℕ → ℕ → Option Found → Option Found
earlier t k None = found_at t k
earlier t k (Some f) = cond (is_before t k f.against f.account) (found_at t k) (Some f)

-- the end time and the account of the first of these pairs
unfoldable pub least : List ℕ → List Pair → Option Found
least w [] = None
least w (c ∷ cs) = earlier (end_time w c.holder) c.account (least w cs)

-- RULES 4.3: the first clash of action n, which its commit answers
unfoldable pub first_clash : List ℕ → ℕ → Option Found
first_clash w n = least w (clashes w n)

-- there is none
abbrev pub is_clear : Option Found → Bool
is_clear None = true
is_clear (Some f) = false
