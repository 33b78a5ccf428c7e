-- How deep an action lies: where the parents of those of a set are the store or in the set, no deeper than there are actions in the
-- set. So where one of the numbers up to `most_actions` isn't live, every live one reaches the store in one move fewer. Assumes
-- nothing.
use Prim.Native.Nat.{ℕ, zero, suc, ◌-◌, ◌≤◌, ◌<◌}
use native.Mathlib.Omega.{arith}
use native.Mathlib.Decide.{dec_le}
use mathlib.Core.Path.{◌≡◌, refl}
use mathlib.Core.Logic.{⊎_elim}
use mathlib.Core.Bool.{Bool, true, false, ◌&&◌}
use mathlib.Core.List.{List}
use Rattle.rules.specs.Range.{up_from, count}
use Rattle.rules.specs.Table.{most_actions, highest, parent_of, is_live}
use Rattle.rules.specs.Walk.{climbs}
use Rattle.rules.specs.Sound.{IsGiven, StoreOrLive, Sound}
use Rattle.rules.proofs.Laws.Tests.{and_left, and_right, and_both, and_false, test}
use Rattle.rules.proofs.Laws.Ranges.{count_at_most, count_fewer}
use Rattle.rules.proofs.Laws.Climbing.{climbs_parent, climbs_more, far_parent, far_action}
use Rattle.rules.proofs.Laws.Walking.{parent_store_or_live, sound_climbs}

-- ---- in any set of numbers up to the last

module _ (parent : ℕ → ℕ) (last : ℕ) (is_in : ℕ → Bool) where
  -- n is the store or in the set
  abbrev StoreOrIn : ℕ → Type 0
  StoreOrIn n = (n ≤ last) × (1 ≤ n → is_in n ≡ true)

  -- n is in the set, and from it the store is reached in so many moves at most
  is_in_within : ℕ → ℕ → Bool
  is_in_within moves n = is_in n && climbs parent moves n

  -- how many such there are
  in_within : ℕ → ℕ
  in_within moves = count (is_in_within moves) (up_from 1 last)

  -- With n's own move one more is counted than with its parent's.
  counted_deeper :
      (moves n : ℕ) → StoreOrIn n → climbs parent moves n ≡ false → climbs parent (suc moves) n ≡ true →
      in_within moves < in_within (suc moves)
  unfolding in_within is_in_within
  counted_deeper moves n from far up =
      let action = far_action parent moves n far in
      count_fewer (is_in_within (suc moves)) (is_in_within moves) 1 last n (omega (arith, from.0))
      (and_both (from.1 (omega arith)) up)
      (rw far (and_false (is_in n)))
      (λ y _ within.
      and_both (and_left (is_in y) _ within) (climbs_more parent moves y (and_right (is_in y) _ within)))

  module _ (above : (n : ℕ) → (1 ≤ n) × (n ≤ last) → is_in n ≡ true → StoreOrIn (parent n)) where
    depth_counted :
        (moves n : ℕ) → StoreOrIn n → climbs parent moves n ≡ false → climbs parent (suc moves) n ≡ true →
        suc moves ≤ in_within (suc moves)
    depth_counted zero n from far up = omega (arith, counted_deeper zero n from far up)
    depth_counted (suc moves) n from far up =
        let action = far_action parent (suc moves) n far in
        let higher = above n (omega arith, from.0) (from.1 (omega arith)) in
        let nearer = depth_counted moves (parent n) higher (far_parent parent moves n far) (climbs_parent parent (suc moves) n action up) in
        omega (arith, nearer, counted_deeper (suc moves) n from far up)

    pub depth_few :
        (moves n : ℕ) → StoreOrIn n → climbs parent moves n ≡ false → climbs parent (suc moves) n ≡ true → suc moves ≤ last
    unfolding in_within
    depth_few moves n from far up =
        omega (arith, depth_counted moves n from far up, count_at_most (is_in_within (suc moves)) 1 last)

-- ---- among live actions

module _ (w : List ℕ) (s : Sound w) where
  abbrev live_within : ℕ → ℕ
  live_within = in_within (parent_of w) (highest w) (is_live w)

  -- N is a number that may be given, and isn't live
  module _ (N : ℕ) (one : 1 ≤ N) (few : N ≤ most_actions) (free : IsGiven w N → is_live w N ≡ false) where
    -- so not all numbers are those of live actions
    not_all_live : (moves : ℕ) → live_within moves < most_actions
    unfolding in_within is_in_within
    not_all_live moves = by_number (dec_le N (highest w))
      where
        by_number : Dec (N ≤ highest w) → live_within moves < most_actions
        by_number (yes known) =
            let others =
            count_fewer (λ _. true) (is_in_within (parent_of w) (highest w) (is_live w) moves) 1 (highest w) N (omega arith) refl
            (rw (free (one, known)) refl) (λ _ _ _. refl) in
            omega (arith, others, count_at_most (λ _. true) 1 (highest w), s.few)
        by_number (no above) =
            omega (arith, count_at_most (is_in_within (parent_of w) (highest w) (is_live w) moves) 1 (highest w))

    pub one_move_left : (n : ℕ) → StoreOrLive w n → climbs (parent_of w) (most_actions - 1) n ≡ true
    one_move_left n from =
        ⊎_elim (λ up. up)
        (λ far.
        let deep =
        depth_counted (parent_of w) (highest w) (is_live w) (parent_store_or_live s)
        (most_actions - 1) n from far (sound_climbs s n from) in
        absurd (omega (arith, deep, not_all_live most_actions)))
        (test (climbs (parent_of w) (most_actions - 1) n))
