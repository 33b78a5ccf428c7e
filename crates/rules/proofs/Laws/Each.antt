-- A fact about each member of a list. Assumes nothing.
use mathlib.Core.Bool.{Bool, true, false, cond}
use mathlib.Core.List.{List, [], ◌∷◌, ◌++◌, map}
use Rattle.rules.specs.Range.{filter}

module _ {A : Type 0} where
  -- P holds of each of these
  unfoldable pub Each : (A → Type 0) → List A → Type 0
  Each P [] = Unit {0}
  Each P (x ∷ xs) = P x × Each P xs

  pub each_all : (P : A → Type 0) → ((x : A) → P x) → (xs : List A) → Each P xs
  unfolding Each
  each_all P every [] = tt
  each_all P every (x ∷ xs) = (every x, each_all P every xs)

  pub each_both : (P Q R : A → Type 0) → ((x : A) → P x → Q x → R x) → (xs : List A) → Each P xs → Each Q xs → Each R xs
  unfolding Each
  each_both P Q R both [] ps qs = tt
  each_both P Q R both (x ∷ xs) (p, ps) (q, qs) = (both x p q, each_both P Q R both xs ps qs)

  pub each_filter : (P : A → Type 0) (f : A → Bool) (xs : List A) → Each P xs → Each P (filter f xs)
  unfolding Each filter
  each_filter P f [] each = tt
  each_filter P f (x ∷ xs) (here, later) = chosen (f x) (each_filter P f xs later)
    where
      chosen : (b : Bool) → Each P (filter f xs) → Each P (cond b (x ∷ filter f xs) (filter f xs))
      chosen true rest = (here, rest)
      chosen false rest = rest

  pub each_append : (P : A → Type 0) (xs : List A) (x : A) → Each P xs → P x → Each P (xs ++ (x ∷ []))
  unfolding Each
  each_append P [] x each here = (here, tt)
  each_append P (y ∷ xs) x (first, later) here = (first, each_append P xs x later here)

  pub each_mapped : (P Q : A → Type 0) (f : A → A) → ((x : A) → P x → Q (f x)) → (xs : List A) → Each P xs → Each Q (map f xs)
  unfolding Each
  each_mapped P Q f step [] each = tt
  each_mapped P Q f step (x ∷ xs) (here, later) = (step x here, each_mapped P Q f step xs later)
