-- RULES 7.16: the parents that are tested, each once: the store, and those of live actions. Assumes nothing.
use Rattle.std.specs.Prelude.{ℕ, ◌≤◌, ◌≡◌, Bool, true, false, not, cond, ◌||◌, List, get_or, set}
use Rattle.rules.specs.Table.{most_actions, parent_of, is_live}
use Rattle.rules.specs.Sound.{are_newest_true, IsLiveAction, StoreOrLive}

-- where m is live, its parent passes the test
unfoldable pub is_true_above : List ℕ → ℕ → Bool
is_true_above w m = let above = are_newest_true w (parent_of w m) in not (is_live w m) || above

-- the marks of those who have passed, by their numbers, once m's parent has
unfoldable pub with_passed : List ℕ → ℕ → List Bool → List Bool
with_passed w m passed = cond (is_live w m) (set passed (parent_of w m) true) passed

-- who is marked passes
abbrev pub ArePassed : List ℕ → List Bool → Type 0
ArePassed w passed = (p : ℕ) → get_or passed p false ≡ true → are_newest_true w p ≡ true

-- the parent of a live action is the store or live
abbrev pub LiveParents : List ℕ → Type 0
LiveParents w = (m : ℕ) → IsLiveAction w m → StoreOrLive w (parent_of w m)

-- m's parent is the number of a row
abbrev pub HasParentRow : List ℕ → ℕ → Type 0
HasParentRow w m = parent_of w m ≤ most_actions
