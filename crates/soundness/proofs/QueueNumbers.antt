-- The numbers of those who wait in a queue, by their positions: what a loop over the positions asks of them. Assumes nothing.
use Prim.Native.Nat.{ℕ, zero, suc, ◌+◌, ◌-◌}
use native.Mathlib.Nat.{add-sub_cancel, add-suc, suc-add}
use native.Mathlib.Numerals.{add-one}
use native.Mathlib.Omega.{arith}
use mathlib.Core.Path.{◌≡◌, refl, ap₂, ◌∙◌}
use mathlib.Core.Bool.{Bool, not, ◌&&◌}
use mathlib.Core.List.{List, map}
use lib.Dec.{eqb}
use Rattle.rules.specs.Range.{up_from, all}
use Rattle.rules.specs.Queue.{queue_length, entry_at, queue, entry_number}
use Rattle.rules.specs.Sound.{are_distinct, queue_numbers}
use Rattle.rules.proofs.Laws.Lists.{map_map, any_map, all_map}
use Rattle.soundness.specs.Positions.{behind_tail, positions_from, stands_from}

module _ (w : List ℕ) (h : ℕ) where
  numbers_by_position : queue_numbers w h ≡ map (entry_number w h) (positions_from w h 1)
  unfolding queue_numbers queue entry_at
  numbers_by_position = rw add-sub_cancel (map_map (entry_at w h) (λ e. e.number) (up_from 1 (queue_length w h)))

  pub all_by_position : (f : ℕ → Bool) → all f (queue_numbers w h) ≡ all (λ i. f (entry_number w h i)) (positions_from w h 1)
  all_by_position f = rw numbers_by_position (all_map f (entry_number w h) (positions_from w h 1))

  -- the numbers at the positions from i on stand there once each where none stands again further on
  distinct_by :
      (i n : ℕ) → i + n ≡ behind_tail w h →
      are_distinct (map (entry_number w h) (up_from i n)) ≡ all (λ j. not (stands_from w h j (j + 1))) (up_from i n)
  unfolding are_distinct all up_from
  distinct_by i zero e = refl
  distinct_by i (suc n) e =
      let left : behind_tail w h - (i + 1) ≡ n = omega (arith, add-suc i n) in
      ap₂ (λ again later. not again && later)
      (any_map (eqb (entry_number w h i)) (entry_number w h) (up_from (suc i) n) ∙ rw (left, add-one))
      (distinct_by (suc i) n (omega (arith, add-suc i n, suc-add i n)))

  pub distinct_by_position : are_distinct (queue_numbers w h) ≡ all (λ i. not (stands_from w h i (i + 1))) (positions_from w h 1)
  distinct_by_position = rw numbers_by_position (distinct_by 1 (behind_tail w h - 1) (omega arith))
