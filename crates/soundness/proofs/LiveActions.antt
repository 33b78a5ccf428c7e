-- What the clauses of each action say of the live ones: the way up leads to the store, by live actions. Assumes nothing.
use Prim.Native.Nat.{ℕ, ◌≤◌}
use native.Mathlib.Omega.{arith}
use mathlib.Core.Path.{◌≡◌}
use mathlib.Core.Logic.{⊎_elim}
use mathlib.Core.Bool.{true, ◌&&◌}
use mathlib.Core.List.{List}
use lib.Dec.{eqb}
use lib.ListN.{length}
use borrow.Author.Tests.{leb-true, eqb-true}
use Rattle.rules.specs.Range.{all}
use Rattle.rules.specs.Table.{table_length, most_actions, highest, parent_of, is_live, actions}
use Rattle.rules.specs.Walk.{Climbs}
use Rattle.rules.specs.Sound.{has_state, has_parent_known, has_way_up, has_parent_alive, is_sound_action, IsGiven}
use Rattle.rules.proofs.Laws.Tests.{and_left, and_right, or_cases, implied}
use Rattle.rules.proofs.Sound.Scans.{all_given}
use Rattle.ancestry.specs.Ancestry.{LiveClimb}
use Rattle.soundness.specs.Passed.{LiveParents}

module _ (w : List ℕ) (each : all (is_sound_action w) (actions w) ≡ true) where
  -- the first four clauses
  firsts : (n : ℕ) → IsGiven w n → (has_state w n && has_parent_known w n && has_way_up w n && has_parent_alive w n) ≡ true
  unfolding is_sound_action
  firsts n given =
      and_left _ _ (and_left _ _ (and_left _ _ (and_left _ _ (all_given w (is_sound_action w) each n given))))

  known : (n : ℕ) → IsGiven w n → parent_of w n ≤ highest w
  known n given =
      leb-true _ _
      (and_right (has_state w n) (has_parent_known w n)
      (and_left (has_state w n && has_parent_known w n) (has_way_up w n)
      (and_left (has_state w n && has_parent_known w n && has_way_up w n) (has_parent_alive w n) (firsts n given))))

  climb : (n : ℕ) → IsGiven w n → is_live w n ≡ true → Climbs w n
  unfolding has_way_up
  climb n given live =
      implied (is_live w n) _
      (and_right (has_state w n && has_parent_known w n) (has_way_up w n)
      (and_left (has_state w n && has_parent_known w n && has_way_up w n) (has_parent_alive w n) (firsts n given)))
      live

  pub live_climb : length w ≡ table_length → highest w ≤ most_actions → LiveClimb w
  live_climb long few = record { long = long; few = few; known = known; climb = climb }

  pub live_parents : LiveParents w
  live_parents n (given, live) = (
    known n given,
    λ action.
        ⊎_elim (λ store. absurd (omega (arith, eqb-true (parent_of w n) 0 store))) (λ above. above)
        (or_cases (eqb (parent_of w n) 0) (is_live w (parent_of w n))
        (implied (is_live w n) _
        (and_right (has_state w n && has_parent_known w n && has_way_up w n) (has_parent_alive w n) (firsts n given)) live)),
  )
