-- RULES 1.11: who is below whom in a sound table: an action is below its parent and below all whom its parent is below, and two
-- tables agree on it where the parents on the way up do. Assumes nothing.
use Prim.Native.Nat.{ℕ, ◌≤◌}
use native.Mathlib.Omega.{arith}
use native.Mathlib.Decide.{ℕ_discrete}
use mathlib.Core.Path.{◌≡◌, refl, ◌∙◌}
use mathlib.Core.Logic.{⊎_elim}
use mathlib.Core.Bool.{true, false, ◌||◌}
use mathlib.Core.List.{List}
use borrow.Author.Tests.{eq-eqb}
use lib.Dec.{eqb}
use Rattle.rules.specs.Table.{most_actions, highest, parent_of}
use Rattle.rules.specs.Walk.{Climbs, is_at_or_below, is_under}
use Rattle.rules.specs.Sound.{IsGiven, IsLiveAction, Sound}
use Rattle.rules.proofs.Laws.Tests.{or_cases, or_inl, or_inr}
use Rattle.rules.proofs.Laws.Walking.{walk_agree, parent_store_or_live, sound_climbs, at_or_below_step, at_or_below_itself}

module _ {w : List ℕ} (s : Sound w) where
  pub under_parent : (n : ℕ) → IsLiveAction w n → is_under w (parent_of w n) n ≡ true
  unfolding is_under
  under_parent n (given, lives) = go (ℕ_discrete (parent_of w n) 0)
    where
      go : Dec (parent_of w n ≡ 0) → (eqb (parent_of w n) 0 || is_at_or_below w (parent_of w n) (parent_of w n)) ≡ true
      go (yes store) = or_inl _ (eq-eqb _ _ store)
      go (no action) =
          or_inr (eqb (parent_of w n) 0)
          (at_or_below_itself w (parent_of w n) action (sound_climbs s _ (parent_store_or_live s n given lives)))

  -- whom its live parent is below
  pub under_further : (p x n : ℕ) → IsLiveAction w n → parent_of w x ≡ n → is_under w p n ≡ true → is_under w p x ≡ true
  unfolding is_under
  under_further p x n (given, lives) under below =
      ⊎_elim
      (or_inl _)
      (λ above.
      or_inr (eqb p 0)
      (rw under (at_or_below_step w p n (λ z. omega arith) (s.climb n given lives) ∙ or_inr (eqb n p) above)))
      (or_cases (eqb p 0) (is_at_or_below w p (parent_of w n)) below)

  -- another table, which agrees on the parents of all on the way up from n, of which On holds
  pub under_agree :
      (v : List ℕ) (On : ℕ → Type 0) → ((m : ℕ) → IsGiven w m → On m → On (parent_of w m)) →
      ((m : ℕ) → IsGiven w m → On m → parent_of v m ≡ parent_of w m) →
      ((m : ℕ) → On m → m ≤ highest w) → (p n : ℕ) → IsLiveAction w n → On n → is_under v p n ≡ is_under w p n
  unfolding is_under is_at_or_below
  under_agree v On Above-on parents inside p n (given, lives) on =
      rw (
        parents n given on,
        walk_agree (parent_of w) (parent_of v) false (λ m above. eqb m p || above) (λ m above. eqb m p || above) On
            (λ m ne is. Above-on m (omega arith, inside m is) is)
            (λ m ne is. parents m (omega arith, inside m is) is)
            (λ m ne is above. refl)
            most_actions most_actions (parent_of w n) (Above-on n given on) up up,
      )
      refl
    where
      up : Climbs w (parent_of w n)
      up = sound_climbs s (parent_of w n) (parent_store_or_live s n given lives)
