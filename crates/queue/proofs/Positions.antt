-- Where an action stands in a queue, and what is asked of its entry: where no number stands there twice, it is asked at the
-- action's first position. Assumes nothing.
use Prim.Native.Nat.{ℕ, zero, suc, ◌+◌, ◌-◌, ◌≤◌, ◌<◌}
use native.Mathlib.Nat.{add-suc, suc-add, add-sub_cancel}
use native.Mathlib.Omega.{arith}
use mathlib.Core.Path.{◌≡◌, refl, sym, ◌∙◌}
use mathlib.Core.Logic.{◌≢◌}
use mathlib.Core.Bool.{Bool, true, false, not, cond, ◌&&◌, ◌||◌, or-false}
use mathlib.Core.List.{List, map}
use lib.Dec.{eqb}
use Rattle.std.specs.Prelude.{Some, find}
use borrow.Author.Tests.{eqb-true, ne_eqb}
use Rattle.rules.specs.Range.{up_from, any}
use Rattle.rules.specs.Queue.{queue_length, Entry, entry_at, is_of, queue, is_queued}
use Rattle.rules.specs.Sound.{are_distinct, queue_numbers}
use Rattle.rules.proofs.Laws.Tests.{and_left, not_both, false_of_not_true, cond_holds}
use Rattle.rules.proofs.Laws.Lists.{any_map, any_weaker}
use Rattle.rules.proofs.Laws.Distinct.{distinct_parts}
use Rattle.queue.specs.Line.{StandsOnce, first, stands_at, position_of}
use Rattle.rows.specs.Row.{numbered}
use Rattle.rows.proofs.Numbered.{found_at}

-- ---- the first of a run's numbers of which f holds

module _ (f : ℕ → Bool) where
  first_below : (a n : ℕ) → 1 ≤ a → first f (up_from a n) < a + n
  unfolding first up_from
  first_below a zero one = omega arith
  first_below a (suc n) one =
      let later = first_below (suc a) n (omega arith) in
      cond_holds (λ x. x < a + suc n) (f a)
      (λ _. omega (arith, add-suc a n))
      (λ _. omega (arith, later, add-suc a n, suc-add a n))

  pub first_holds : (a n : ℕ) → first f (up_from a n) ≢ 0 → f (first f (up_from a n)) ≡ true
  unfolding first up_from
  first_holds a zero some = absurd (some refl)
  first_holds a (suc n) some =
      cond_holds (λ x. x ≢ 0 → f x ≡ true) (f a) (λ here _. here) (λ _. first_holds (suc a) n) some

  find_first : (a n : ℕ) → 1 ≤ a → find f (up_from a n) ≡ numbered (first f (up_from a n))
  unfolding first up_from
  find_first a zero one = refl
  find_first a (suc n) one =
      cond_holds (λ x. cond (f a) (Some a) (find f (up_from (suc a) n)) ≡ numbered x) (f a)
      (λ here. rw (here, ne_eqb a 0 (λ z. omega arith)))
      (λ passed. rw passed (find_first (suc a) n (omega arith)))

  any_first : (a n : ℕ) → 1 ≤ a → any f (up_from a n) ≡ not (eqb (first f (up_from a n)) 0)
  unfolding first any up_from
  any_first a zero one = refl
  any_first a (suc n) one =
      cond_holds (λ x. (f a || any f (up_from (suc a) n)) ≡ not (eqb x 0)) (f a)
      (λ here. rw (here, ne_eqb a 0 (λ z. omega arith)))
      (λ passed. rw passed (any_first (suc a) n (omega arith)))

-- ---- in a queue

-- no number stands twice at the positions from a on
abbrev pub Once : List ℕ → ℕ → ℕ → ℕ → Type 0
Once w h a left = are_distinct (map (λ e. e.number) (map (entry_at w h) (up_from a left))) ≡ true

pub once_later : (w : List ℕ) (h a left : ℕ) → Once w h a (suc left) → Once w h (suc a) left
unfolding up_from
once_later w h a left once = (distinct_parts _ _ once).1

module _ (w : List ℕ) (h n : ℕ) where
  -- as the code finds it
  pub found_first : find (stands_at w h n) (up_from 1 (queue_length w h + 1 - 1)) ≡ numbered (position_of w h n)
  found_first = rw add-sub_cancel (find_first (stands_at w h n) 1 (queue_length w h) (omega arith))

  pub position_few : position_of w h n ≤ queue_length w h
  position_few = omega (arith, first_below (stands_at w h n) 1 (queue_length w h) (omega arith))

  -- .. has a row
  pub found_few : {i : ℕ} → Some i ≡ numbered (position_of w h n) → i ≤ queue_length w h
  found_few e = rw (found_at e) at position_few

  pub queued_position : is_queued w h n ≡ not (eqb (position_of w h n) 0)
  unfolding is_queued queue
  queued_position =
      any_map (is_of n) (entry_at w h) (up_from 1 (queue_length w h))
      ∙ any_first (stands_at w h n) 1 (queue_length w h) (omega arith)

  pub none_placed : position_of w h n ≡ 0 → any (stands_at w h n) (up_from 1 (queue_length w h)) ≡ false
  none_placed out = any_first (stands_at w h n) 1 (queue_length w h) (omega arith) ∙ rw out

  -- where n stands at a, it stands at no later position
  pub none_later :
      (a left : ℕ) → Once w h a (suc left) → stands_at w h n a ≡ true → any (stands_at w h n) (up_from (suc a) left) ≡ false
  unfolding up_from
  none_later a left once here =
      let same : n ≡ (entry_at w h a).number = eqb-true _ _ here in
      sym
      (any_map (eqb n) (λ e. e.number) (map (entry_at w h) (up_from (suc a) left))
      ∙ any_map (is_of n) (entry_at w h) (up_from (suc a) left))
      ∙ rw same (distinct_parts _ _ once).0

  module _ (q : Entry → Bool) where
    abbrev asked : ℕ → Bool
    asked i = stands_at w h n i && q (entry_at w h i)

    asked_nowhere : (a left : ℕ) → any (stands_at w h n) (up_from a left) ≡ false → any asked (up_from a left) ≡ false
    asked_nowhere a left none =
        false_of_not_true _
        (λ some. not_both (any_weaker asked (stands_at w h n) (λ i both. and_left _ _ both) (up_from a left) some) none)

    asked_first :
        (a left : ℕ) → Once w h a left → first (stands_at w h n) (up_from a left) ≢ 0 →
        any asked (up_from a left) ≡ q (entry_at w h (first (stands_at w h n) (up_from a left)))
    unfolding first any up_from
    asked_first a zero once some = absurd (some refl)
    asked_first a (suc left) once some =
        cond_holds (λ x. x ≢ 0 → (asked a || any asked (up_from (suc a) left)) ≡ q (entry_at w h x)) (stands_at w h n a)
        (λ here _. rw (here, asked_nowhere (suc a) left (none_later a left once here), or-false))
        (λ passed later. rw passed (asked_first (suc a) left (once_later w h a left once) later))
        some

    asked_map : any (λ e. is_of n e && q e) (queue w h) ≡ any asked (up_from 1 (queue_length w h))
    unfolding queue
    asked_map = any_map (λ e. is_of n e && q e) (entry_at w h) (up_from 1 (queue_length w h))

    -- n has no entry, or the one at its first position is asked
    pub unplaced : position_of w h n ≡ 0 → any (λ e. is_of n e && q e) (queue w h) ≡ false
    unplaced out = asked_map ∙ asked_nowhere 1 (queue_length w h) (none_placed out)

    pub placed :
        StandsOnce w h → position_of w h n ≢ 0 →
        any (λ e. is_of n e && q e) (queue w h) ≡ q (entry_at w h (position_of w h n))
    unfolding queue_numbers queue
    placed once some = asked_map ∙ asked_first 1 (queue_length w h) once some
