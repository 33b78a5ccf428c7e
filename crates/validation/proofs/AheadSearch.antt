-- The search for the first reader ahead by the library's `find` and `find_map`. Assumes nothing.
use Prim.Native.Nat.{ℕ}
use mathlib.Core.Path.{◌≡◌, refl, sym, ap, ◌∙◌}
use mathlib.Core.Bool.{Bool, true, false, cond}
use mathlib.Core.List.{List, [], ◌∷◌}
use Rattle.std.specs.Prelude.{Option, Some, None}
use Rattle.std.specs.List.{find}
use Rattle.std.specs.Option.{option_map}
use Rattle.rules.specs.declared.Found.{Found}
use Rattle.rules.specs.Found.{found_at}
use Rattle.rules.specs.Ahead.{is_read_ahead, ahead_over, ahead_by, ahead_among}

module _ (w : List ℕ) (n : ℕ) where
  -- the first account that is found, beside m
  abbrev pub beside : ℕ → Option ℕ → Option Found
  beside m = option_map (λ k. record { against = m; account = k })

  by_account :
      (m k : ℕ) (b : Bool) (rest : Option ℕ) → cond b (found_at m k) (beside m rest) ≡ beside m (cond b (Some k) rest)
  by_account m k true rest = refl
  by_account m k false rest = refl

  over_by_find : (m : ℕ) (l : List ℕ) → ahead_over w n m l ≡ beside m (find (is_read_ahead w n m) l)
  unfolding ahead_over
  over_by_find m [] = refl
  over_by_find m (k ∷ ks) = rw (over_by_find m ks) (by_account m k (is_read_ahead w n m k) (find (is_read_ahead w n m) ks))

  pub over_found : (m : ℕ) (l : List ℕ) {r o : Option ℕ} → r ≡ find (is_read_ahead w n m) l → r ≡ o → ahead_over w n m l ≡ beside m o
  over_found m l found is = over_by_find m l ∙ ap (beside m) (sym found ∙ is)

  -- the first of the actions that is one ahead decides
  pub among_none : ahead_among w n [] ≡ None
  unfolding ahead_among
  among_none = refl

  pub among_here : (m : ℕ) (l : List ℕ) (found : Found) → ahead_by w n m ≡ Some found → ahead_among w n (m ∷ l) ≡ Some found
  unfolding ahead_among
  among_here m l found is = rw is

  pub among_next : (m : ℕ) (l : List ℕ) → ahead_by w n m ≡ None → ahead_among w n (m ∷ l) ≡ ahead_among w n l
  unfolding ahead_among
  among_next m l is = rw is
