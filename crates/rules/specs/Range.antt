-- Runs of numbers, and what is asked of the members of a list or done for each: what the rules say of every account, of every
-- action, or of every entry of a queue.
-- Assumes nothing.
use Rattle.std.specs.Prelude.{ℕ, zero, suc, ◌+◌, Bool, true, false, cond, ◌&&◌, ◌||◌, List, [], ◌∷◌}

-- the n numbers from a on, rising
unfoldable pub up_from : ℕ → ℕ → List ℕ
up_from a zero = []
up_from a (suc n) = a ∷ up_from (suc a) n

-- the same n numbers, falling
unfoldable pub down_to : ℕ → ℕ → List ℕ
down_to a zero = []
down_to a (suc n) = (a + n) ∷ down_to a n

-- f holds of one of them at least
unfoldable pub any : {A : Type 0} → (A → Bool) → List A → Bool
any f [] = false
any f (x ∷ xs) = f x || any f xs

-- f holds of each of them
unfoldable pub all : {A : Type 0} → (A → Bool) → List A → Bool
all f [] = true
all f (x ∷ xs) = f x && all f xs

-- of how many of them f holds
unfoldable pub count : {A : Type 0} → (A → Bool) → List A → ℕ
count f [] = zero
count f (x ∷ xs) = let rest = count f xs in cond (f x) (suc rest) rest

-- those of which f holds, in their order
unfoldable pub filter : {A : Type 0} → (A → Bool) → List A → List A
filter f [] = []
filter f (x ∷ xs) = let rest = filter f xs in cond (f x) (x ∷ rest) rest

-- a, changed by f once for each of them, in their order
unfoldable pub fold : {A : Type 0} → (ℕ → A → A) → List ℕ → A → A
fold f [] a = a
fold f (x ∷ xs) a = fold f xs (f x a)
