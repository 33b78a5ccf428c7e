-- RULES 4.10: the newest end times that the records which a parent holds make, by one pass over the actions. Assumes nothing.
use Rattle.std.specs.Prelude.{ℕ, ◌≡◌, Bool, cond, ◌&&◌, List, get_or, replicate}
use Rattle.rules.specs.Range.{fold}
use Rattle.rules.specs.Card.{account_count}
use Rattle.rules.specs.Table.{is_committed, is_child_of, actions}
use Rattle.rows.specs.Ends.{raised_ends}

-- m is a child of p that has committed: a record of p, where it has written
abbrev pub is_committed_child_of : List ℕ → ℕ → ℕ → Bool
is_committed_child_of w p m = is_child_of w p m && is_committed w m

-- end times, a word for each account, once m has been counted in
unfoldable pub counted_in : List ℕ → ℕ → ℕ → List ℕ → List ℕ
counted_in w p m ends = let raised = raised_ends w m ends in cond (is_committed_child_of w p m) raised ends

-- those of p's records, 0 where no record has written the account
unfoldable pub ends_held : List ℕ → ℕ → List ℕ
ends_held w p = fold (counted_in w p) (actions w) (replicate account_count 0)

-- these are they
abbrev pub AreHeld : List ℕ → ℕ → List ℕ → Type 0
AreHeld w p ends = ends ≡ ends_held w p

-- .. and this is the one for account k
abbrev pub IsHeld : List ℕ → ℕ → ℕ → ℕ → Type 0
IsHeld w p k end = end ≡ get_or (ends_held w p) k 0
