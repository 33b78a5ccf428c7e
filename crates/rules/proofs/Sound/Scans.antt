-- What is asked of every number that was given, and of every row that may have children. Assumes nothing.
use Prim.Native.Nat.{ℕ, ◌+◌, ◌≤◌}
use native.Mathlib.Omega.{arith}
use mathlib.Core.Path.{◌≡◌}
use mathlib.Core.Bool.{Bool, true}
use mathlib.Core.List.{List}
use Rattle.rules.specs.Range.{all}
use Rattle.rules.specs.Table.{highest, actions, parents}
use Rattle.rules.specs.Sound.{IsGiven}
use Rattle.rules.proofs.Laws.Ranges.{Within, all_at, all_of}

-- the numbers that were given are those of the run that the scans go over
given_within : (w : List ℕ) (n : ℕ) → IsGiven w n → Within 1 (highest w) n
given_within w n h = omega arith

within_given : (w : List ℕ) (n : ℕ) → Within 1 (highest w) n → IsGiven w n
within_given w n h = omega arith

pub all_given : (w : List ℕ) (f : ℕ → Bool) → all f (actions w) ≡ true → (n : ℕ) → IsGiven w n → f n ≡ true
unfolding actions
all_given w f p n h = all_at f 1 (highest w) n p (given_within w n h)

pub given_all : (w : List ℕ) (f : ℕ → Bool) → ((n : ℕ) → IsGiven w n → f n ≡ true) → all f (actions w) ≡ true
unfolding actions
given_all w f h = all_of f 1 (highest w) (λ n r. h n (within_given w n r))

-- the store and the numbers that were given are those of the run over parents
pub all_parents : (w : List ℕ) (f : ℕ → Bool) → all f (parents w) ≡ true → (p : ℕ) → p ≤ highest w → f p ≡ true
unfolding parents
all_parents w f t p h = all_at f 0 (highest w + 1) p t (omega arith)

pub parents_all : (w : List ℕ) (f : ℕ → Bool) → ((p : ℕ) → p ≤ highest w → f p ≡ true) → all f (parents w) ≡ true
unfolding parents
parents_all w f h = all_of f 0 (highest w + 1) (λ p r. h p (omega arith))
