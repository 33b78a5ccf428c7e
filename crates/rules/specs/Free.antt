-- RULES 1.11: which records are needed and which numbers are free; document 02's terms. Each test comes before what it spares:
-- `let` waits until it is asked for. Assumes nothing.
use Rattle.std.specs.Prelude.{ℕ, ◌+◌, Bool, false, not, cond, ◌&&◌, ◌||◌, List, [], ◌∷◌, ltb, eqb}
use Rattle.rules.specs.Range.{any}
use Rattle.rules.specs.Card.{accounts}
use Rattle.rules.specs.Table.{most_actions, highest, parent_of, kind_of, end_time, has_read, read_time, is_live, has_end, actions}
use Rattle.rules.specs.Walk.{is_under}

-- action x has read an account, any account, at a time of kind h that is less than t
unfoldable pub has_read_before : List ℕ → ℕ → ℕ → ℕ → Bool
has_read_before w h t x = any (λ k. has_read w x k && ltb (read_time w h x k) t) accounts

-- x needs the record m: it is live, has read before m's end, and is below m's parent
unfoldable pub needs : List ℕ → ℕ → ℕ → Bool
needs w m x =
    let below = is_under w (parent_of w m) x in
    let early = cond (has_read_before w (kind_of w m) (end_time w m) x) below false in
    cond (is_live w x) early false

-- p is the store, or a live action
abbrev pub is_store_or_live : List ℕ → ℕ → Bool
is_store_or_live w p = eqb p 0 || is_live w p

-- m is a record of the store or of a live parent, and somebody needs it
unfoldable pub is_needed : List ℕ → ℕ → Bool
is_needed w m =
    let somebody = any (needs w m) (actions w) in
    cond (has_end w m && is_store_or_live w (parent_of w m)) somebody false

-- the number m, which has been given, is free: its action has finished, and isn't a record that is needed
unfoldable pub is_free : List ℕ → ℕ → Bool
is_free w m =
    let unneeded = not (is_needed w m) in
    cond (is_live w m) false unneeded

-- the first of these numbers that is free, 0 where none is
unfoldable pub first_free : List ℕ → List ℕ → ℕ
first_free w [] = 0
first_free w (m ∷ ms) =
    let later = first_free w ms in
    cond (is_free w m) m later

-- the number after the highest, 0 where there is none
unfoldable pub fresh_number : List ℕ → ℕ
fresh_number w = cond (ltb (highest w) most_actions) (highest w + 1) 0

-- the number that a start gives: the lowest free one, 0 where none is
unfoldable pub next_number : List ℕ → ℕ
next_number w =
    let lowest = first_free w (actions w) in
    let fresh = fresh_number w in
    cond (eqb lowest 0) fresh lowest
