-- Going up the parents, from an action to the store. Assumes nothing.
use Rattle.std.specs.Prelude.{ℕ, zero, suc, ◌≡◌, Bool, true, false, cond, ◌&&◌, ◌||◌, List, eqb}
use Rattle.rules.specs.Table.{most_actions, parent_of, is_live}

-- What `here` makes of action n and of what lies above it; at the store it is `top`. The first number bounds the moves: as
-- many as there can be actions are enough from a live action of a sound table (proofs/Laws/Walking.antt).
unfoldable pub walk_up : {A : Type 0} → (ℕ → ℕ) → A → (ℕ → A → A) → ℕ → ℕ → A
walk_up parent top here zero n = top
walk_up parent top here (suc moves) n =
    let above = here n (walk_up parent top here moves (parent n)) in
    cond (eqb n 0) top above

-- from n the store is reached, in so many moves at most
unfoldable pub climbs : (ℕ → ℕ) → ℕ → ℕ → Bool
climbs parent zero n = eqb n 0
climbs parent (suc moves) n = let above = climbs parent moves (parent n) in eqb n 0 || above

-- .. in a table, in as many moves as there can be actions
abbrev pub Climbs : List ℕ → ℕ → Type 0
Climbs w n = climbs (parent_of w) most_actions n ≡ true

-- RULES 2.6: action m is a, or is below a
unfoldable pub is_at_or_below : List ℕ → ℕ → ℕ → Bool
is_at_or_below w a m = walk_up (parent_of w) false (λ n above. eqb n a || above) most_actions m

-- RULES 1.11: action m is below p, which may be 0 for the store
unfoldable pub is_under : List ℕ → ℕ → ℕ → Bool
is_under w p m = eqb p 0 || is_at_or_below w p (parent_of w m)

-- m is at or below a and is live, so that an abort of a reaches it
abbrev pub is_aborted_by : List ℕ → ℕ → ℕ → Bool
is_aborted_by w a m = is_live w m && is_at_or_below w a m
