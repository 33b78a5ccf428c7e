-- What loops over a queue's positions go by: what stands there already can be put there again, and the words of a queue make no
-- difference to who is reached by an abort. Assumes nothing.
use Prim.Native.Nat.{ℕ, zero, suc, ◌+◌, ◌≤◌, ◌<◌}
use native.Mathlib.Nat.{add-zero, add-suc, suc-add}
use native.Mathlib.Omega.{arith}
use mathlib.Core.Path.{◌≡◌, refl, ap, ap₂, ◌∙◌}
use mathlib.Core.Logic.{inl}
use mathlib.Core.Bool.{true, ◌&&◌}
use mathlib.Core.List.{List, ◌++◌, map}
use lib.Dec.{eqb}
use borrow.Author.Tests.{eq-eqb}
use Rattle.rules.specs.Range.{up_from}
use Rattle.rules.specs.Kind.{IsKind}
use Rattle.rules.specs.Table.{width, live, parent_field, state_field, word}
use Rattle.rules.specs.Walk.{is_aborted_by}
use Rattle.rules.specs.Queue.{number_field, verdict_field, ready_field, queue_length, with_queue_length, Entry, entry_at, with_entry, is_of, queue, is_queued, with_entries}
use Rattle.rules.proofs.Laws.Ranges.{any_at}
use Rattle.rules.proofs.Laws.Lists.{any_map}
use Rattle.rules.proofs.Laws.Words.{with_word_own}
use Rattle.rules.proofs.Laws.Walking.{at_or_below_agree}
use Rattle.rules.proofs.Laws.Queue.{OffEntry}

-- ---- what stands there put there again

module _ (w : List ℕ) (h : ℕ) where
  pub queue_length_back : with_queue_length w h (queue_length w h) ≡ w
  queue_length_back = with_word_own w 0 _

  pub entry_back : (i : ℕ) → with_entry w h i (entry_at w h i) ≡ w
  unfolding with_entry entry_at
  entry_back i = rw (with_word_own w i (number_field h), with_word_own w i (verdict_field h), with_word_own w i (ready_field h))

  -- several positions from i on, and other entries behind them
  pub entries_back :
      (i left : ℕ) (es : List Entry) → with_entries w h i (map (entry_at w h) (up_from i left) ++ es) ≡ with_entries w h (i + left) es
  unfolding with_entries up_from
  entries_back i zero es = rw add-zero
  entries_back i (suc left) es =
      let behind : suc i + left ≡ i + suc left = omega (arith, suc-add i left, add-suc i left) in
      ap (λ now. with_entries now h (suc i) (map (entry_at w h) (up_from (suc i) left) ++ es)) (entry_back i)
      ∙ entries_back (suc i) left es
      ∙ rw behind

-- ---- who stands there

module _ (w : List ℕ) (h : ℕ) where
  -- whoever stands at a position is queued
  pub queued_at : (i : ℕ) → 1 ≤ i → i ≤ queue_length w h → is_queued w h (word w i (number_field h)) ≡ true
  unfolding is_queued queue entry_at
  queued_at i one last =
      any_map (is_of (word w i (number_field h))) (entry_at w h) (up_from 1 (queue_length w h))
      ∙ any_at _ 1 (queue_length w h) i (omega arith) (eq-eqb (word w i (number_field h)) _ refl)

-- ---- who is reached by an abort

-- a table that differs in words of a queue alone
pub aborted_by_kept :
    (w v : List ℕ) (h : ℕ) → IsKind h → ((m g : ℕ) → g < width → OffEntry h g → word v m g ≡ word w m g) →
    (n m : ℕ) → is_aborted_by v n m ≡ is_aborted_by w n m
aborted_by_kept w v h known off n m =
    ap₂ ◌&&◌ (ap (λ x. eqb x live) (off m state_field (omega arith) (inl (omega arith))))
    (at_or_below_agree w v (λ x. off x parent_field (omega arith) (inl (omega arith))) n m)
