-- Tests of the members of a list: what holds of a list that was mapped, lengthened or thinned out. Assumes nothing.
use Prim.Native.Nat.{ℕ, suc, ◌≤◌, ◌<◌}
use native.Mathlib.Omega.{arith}
use mathlib.Core.Path.{◌≡◌, refl, ap}
use mathlib.Core.Logic.{⊎_elim}
use mathlib.Core.Bool.{Bool, true, false, not, cond, ◌&&◌, ◌||◌, false≢true}
use mathlib.Core.List.{List, [], ◌∷◌, ◌++◌, map}
use lib.Dec.{eqb}
use lib.ListN.{length}
use borrow.Author.Tests.{eqb-true, eq-eqb}
use Rattle.rules.specs.Range.{any, all, filter}
use Rattle.rules.proofs.Laws.Tests.{and_left, and_right, and_both, or_cases, or_inl, or_inr}

module _ {A : Type 0} where
  -- ---- lists made from others

  pub map_append : {B : Type 0} (f : A → B) (xs ys : List A) → map f (xs ++ ys) ≡ map f xs ++ map f ys
  map_append f [] ys = refl
  map_append f (x ∷ xs) ys = ap (λ l. f x ∷ l) (map_append f xs ys)

  pub map_map : {B C : Type 0} (f : A → B) (g : B → C) (xs : List A) → map g (map f xs) ≡ map (λ x. g (f x)) xs
  map_map f g [] = refl
  map_map f g (x ∷ xs) = ap (λ l. g (f x) ∷ l) (map_map f g xs)

  pub filter_map : {B : Type 0} (f : B → Bool) (g : A → B) (xs : List A) → filter f (map g xs) ≡ map g (filter (λ x. f (g x)) xs)
  unfolding filter
  filter_map f g [] = refl
  filter_map f g (x ∷ xs) = chosen (f (g x)) (filter_map f g xs)
    where
      chosen :
          (b : Bool) → filter f (map g xs) ≡ map g (filter (λ y. f (g y)) xs) →
          cond b (g x ∷ filter f (map g xs)) (filter f (map g xs)) ≡ map g (cond b (x ∷ filter (λ y. f (g y)) xs) (filter (λ y. f (g y)) xs))
      chosen true rest = ap (λ l. g x ∷ l) rest
      chosen false rest = rest

  -- ---- one of them at least

  pub any_map : {B : Type 0} (f : B → Bool) (g : A → B) (xs : List A) → any f (map g xs) ≡ any (λ x. f (g x)) xs
  unfolding any
  any_map f g [] = refl
  any_map f g (x ∷ xs) = ap (λ b. f (g x) || b) (any_map f g xs)

  pub any_none : (f : A → Bool) → ((x : A) → f x ≡ false) → (xs : List A) → any f xs ≡ false
  unfolding any
  any_none f none [] = refl
  any_none f none (x ∷ xs) = rw (none x, any_none f none xs)

  pub any_append : (f : A → Bool) (xs ys : List A) → any f (xs ++ ys) ≡ any f xs || any f ys
  unfolding any
  any_append f [] ys = refl
  any_append f (x ∷ xs) ys = rw (any_append f xs ys) (regroup (f x) (any f xs) (any f ys))
    where
      regroup : (a b c : Bool) → (a || (b || c)) ≡ ((a || b) || c)
      regroup true b c = refl
      regroup false b c = refl

  -- of a thinned-out list it is one that was kept
  pub any_filter : (f g : A → Bool) (xs : List A) → any f (filter g xs) ≡ any (λ x. g x && f x) xs
  unfolding any filter
  any_filter f g [] = refl
  any_filter f g (x ∷ xs) = chosen (g x) (any_filter f g xs)
    where
      chosen :
          (b : Bool) → any f (filter g xs) ≡ any (λ y. g y && f y) xs →
          any f (cond b (x ∷ filter g xs) (filter g xs)) ≡ (b && f x) || any (λ y. g y && f y) xs
      chosen true rest = ap (λ c. f x || c) rest
      chosen false rest = rest

  -- what implies another test implies it of one of them
  pub any_weaker : (f g : A → Bool) → ((x : A) → f x ≡ true → g x ≡ true) → (xs : List A) → any f xs ≡ true → any g xs ≡ true
  unfolding any
  any_weaker f g weaker [] p = p
  any_weaker f g weaker (x ∷ xs) p =
      ⊎_elim (λ here. or_inl _ (weaker x here)) (λ later. or_inr (g x) (any_weaker f g weaker xs later)) (or_cases (f x) (any f xs) p)

  -- what each of those of which f holds gives, one of them gives
  pub any_implies : {P : Type 0} (f : A → Bool) (xs : List A) → any f xs ≡ true → ((x : A) → f x ≡ true → P) → P
  unfolding any
  any_implies f [] p gives = absurd (false≢true p)
  any_implies f (x ∷ xs) p gives = ⊎_elim (gives x) (λ later. any_implies f xs later gives) (or_cases (f x) (any f xs) p)

  -- ---- each of them

  -- thinning out by a test that holds of each leaves the list
  pub filter_whole : (f : A → Bool) (xs : List A) → all f xs ≡ true → filter f xs ≡ xs
  unfolding all filter
  filter_whole f [] each = refl
  filter_whole f (x ∷ xs) each =
      rw (and_left (f x) (all f xs) each, filter_whole f xs (and_right (f x) (all f xs) each))

  pub all_map : {B : Type 0} (f : B → Bool) (g : A → B) (xs : List A) → all f (map g xs) ≡ all (λ x. f (g x)) xs
  unfolding all
  all_map f g [] = refl
  all_map f g (x ∷ xs) = ap (λ b. f (g x) && b) (all_map f g xs)

  -- ---- how many

  pub length_filter : (f : A → Bool) (xs : List A) → length (filter f xs) ≤ length xs
  unfolding filter
  length_filter f [] = omega arith
  length_filter f (x ∷ xs) = chosen (f x) (length_filter f xs)
    where
      chosen : (b : Bool) → length (filter f xs) ≤ length xs → length (cond b (x ∷ filter f xs) (filter f xs)) ≤ suc (length xs)
      chosen true most = omega arith
      chosen false most = omega arith

  -- .. and fewer where one isn't kept
  pub filter_shorter : (f : A → Bool) (xs : List A) → any (λ x. not (f x)) xs ≡ true → length (filter f xs) < length xs
  unfolding any filter
  filter_shorter f [] out = absurd (false≢true out)
  filter_shorter f (x ∷ xs) out = chosen (f x) (length_filter f xs) (filter_shorter f xs) out
    where
      chosen :
          (b : Bool) → length (filter f xs) ≤ length xs →
          (any (λ y. not (f y)) xs ≡ true → length (filter f xs) < length xs) →
          (not b || any (λ y. not (f y)) xs) ≡ true → length (cond b (x ∷ filter f xs) (filter f xs)) < suc (length xs)
      chosen true most fewer later = omega (arith, fewer later)
      chosen false most fewer later = omega arith

-- ---- numbers

-- what holds of each number holds of one that is listed
pub all_listed : (f : ℕ → Bool) (ns : List ℕ) → all f ns ≡ true → (n : ℕ) → any (eqb n) ns ≡ true → f n ≡ true
unfolding all any
all_listed f [] each n listed = absurd (false≢true listed)
all_listed f (m ∷ ns) each n listed =
    ⊎_elim
    (λ here. rw (eqb-true n m here) (and_left (f m) (all f ns) each))
    (λ later. all_listed f ns (and_right (f m) (all f ns) each) n later)
    (or_cases (eqb n m) (any (eqb n) ns) listed)

pub listed_all : (f : ℕ → Bool) (ns : List ℕ) → ((n : ℕ) → any (eqb n) ns ≡ true → f n ≡ true) → all f ns ≡ true
unfolding all any
listed_all f [] each = refl
listed_all f (m ∷ ns) each =
    and_both (each m (or_inl _ (eq-eqb m m refl))) (listed_all f ns (λ n later. each n (or_inr (eqb n m) later)))
