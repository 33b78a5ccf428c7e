-- An action put at the tail, and an action marked as ready: where the entries that stand there are put again nothing changes, so
-- each of the two puts one entry. Assumes nothing.
use Prim.Native.Nat.{ℕ, zero, suc, ◌+◌}
use native.Mathlib.Omega.{arith}
use mathlib.Core.Path.{◌≡◌, refl, sym, ap, ap₂, ◌∙◌}
use mathlib.Core.Logic.{◌≢◌, inl}
use mathlib.Core.Bool.{false}
use mathlib.Core.List.{List, [], ◌∷◌, ◌++◌, map, map-map, append-nil}
use lib.ListN.{length-map, length-append}
use borrow.Author.Tests.{eqb-true}
use Rattle.rules.specs.Range.{up_from, any}
use Rattle.rules.specs.Table.{word}
use Rattle.rules.specs.Kind.{IsKind}
use Rattle.rules.specs.Queue.{verdict_field, queue_length, with_queue_length, Entry, entry_at, with_entry, ready, queue, with_entries, with_queue, new_entry, with_tail, readied, with_ready}
use Rattle.rules.specs.Sound.{queue_numbers}
use Rattle.rules.proofs.Laws.Tests.{cond_holds}
use Rattle.rules.proofs.Laws.Ranges.{not_any_at, map_agree}
use Rattle.rules.proofs.Laws.Queue.{entry_at_other, with_entry_off}
use Rattle.rules.proofs.Laws.Queue.{length_of_queue}
use Rattle.rules.proofs.Laws.QueueLoops.{queue_length_back, entry_back, entries_back}
use Rattle.queue.specs.Line.{StandsOnce, first, stands_at, position_of}
use Rattle.queue.proofs.Positions.{Once, once_later, none_later, none_placed, first_holds}

-- ---- at the tail

module _ (w : List ℕ) (h n verdict : ℕ) where
  abbrev tail : ℕ
  tail = queue_length w h + 1

  tail_entry : with_entries w h 1 (queue w h ++ (new_entry n verdict ∷ [])) ≡ with_entry w h tail (new_entry n verdict)
  unfolding queue with_entries
  tail_entry =
      let behind : 1 + queue_length w h ≡ tail = omega arith in
      entries_back w h 1 (queue_length w h) (new_entry n verdict ∷ []) ∙ rw behind

  pub tail_put : with_tail w h n verdict ≡ with_queue_length (with_entry w h tail (new_entry n verdict)) h tail
  unfolding with_tail with_queue
  tail_put =
      ap₂ (λ now long. with_queue_length now h long) tail_entry
      (length-append (queue w h) (new_entry n verdict ∷ []) ∙ rw (length_of_queue w h))

-- ---- ready

entries_again : (w : List ℕ) (h a left : ℕ) → with_entries w h a (map (entry_at w h) (up_from a left)) ≡ w
unfolding with_entries
entries_again w h a left =
    ap (with_entries w h a) (sym (append-nil (map (entry_at w h) (up_from a left)))) ∙ entries_back w h a left []

module _ (w : List ℕ) (h n : ℕ) where
  other_readied : (i : ℕ) → stands_at w h n i ≡ false → readied n (entry_at w h i) ≡ entry_at w h i
  unfolding readied
  other_readied i other = rw other

  none_readied :
      (a left : ℕ) → any (stands_at w h n) (up_from a left) ≡ false →
      map (readied n) (map (entry_at w h) (up_from a left)) ≡ map (entry_at w h) (up_from a left)
  none_readied a left none =
      map-map (readied n) (entry_at w h) (up_from a left)
      ∙ map_agree _ (entry_at w h) a left (λ i r. other_readied i (not_any_at (stands_at w h n) a left i none r))

  first_readied :
      IsKind h → (a left : ℕ) → Once w h a left → first (stands_at w h n) (up_from a left) ≢ 0 →
      with_entries w h a (map (readied n) (map (entry_at w h) (up_from a left)))
      ≡ with_entry w h (first (stands_at w h n) (up_from a left)) (readied n (entry_at w h (first (stands_at w h n) (up_from a left))))
  unfolding first up_from with_entries
  first_readied known a zero once some = absurd (some refl)
  first_readied known a (suc left) once some =
      cond_holds
      (λ i. i ≢ 0 → with_entries now h (suc a) (map (readied n) later) ≡ with_entry w h i (readied n (entry_at w h i)))
      (stands_at w h n a)
      (λ here _.
      ap (with_entries now h (suc a))
      (none_readied (suc a) left (none_later w h n a left once here)
      ∙ map_agree (entry_at w h) (entry_at now h) (suc a) left (λ i r. sym (entry_at_other w h known a _ i (λ z. omega arith))))
      ∙ entries_again now h (suc a) left)
      (λ passed more.
      ap (λ v. with_entries v h (suc a) (map (readied n) later)) (ap (with_entry w h a) (other_readied a passed) ∙ entry_back w h a)
      ∙ first_readied known (suc a) left (once_later w h a left once) more)
      some
    where
      now : List ℕ
      now = with_entry w h a (readied n (entry_at w h a))

      later : List Entry
      later = map (entry_at w h) (up_from (suc a) left)

  -- the length is put again
  ready_by :
      (v : List ℕ) → with_entries w h 1 (map (readied n) (queue w h)) ≡ v → queue_length v h ≡ queue_length w h → with_ready w h n ≡ v
  unfolding with_ready with_queue
  ready_by v put same =
      ap₂ (λ now long. with_queue_length now h long) put (length-map (queue w h) (readied n) ∙ length_of_queue w h ∙ sym same)
      ∙ queue_length_back v h

  pub unplaced_ready : position_of w h n ≡ 0 → with_ready w h n ≡ w
  unfolding queue
  unplaced_ready out =
      ready_by w
      (ap (with_entries w h 1) (none_readied 1 (queue_length w h) (none_placed w h n out))
      ∙ entries_again w h 1 (queue_length w h))
      refl

  pub placed_ready :
      IsKind h → StandsOnce w h → position_of w h n ≢ 0 →
      let i = position_of w h n in
      with_ready w h n ≡ with_entry w h i (record { number = n; verdict = word w i (verdict_field h); readiness = ready })
  unfolding queue_numbers queue readied entry_at
  placed_ready known once some =
      let i = position_of w h n in
      let here = first_holds (stands_at w h n) 1 (queue_length w h) some in
      let same : n ≡ (entry_at w h i).number = eqb-true _ _ here in
      ready_by _
      (first_readied known 1 (queue_length w h) once some ∙ rw (here, ← same))
      (with_entry_off w h known i _ 0 _ (omega arith) (inl (omega arith)))
