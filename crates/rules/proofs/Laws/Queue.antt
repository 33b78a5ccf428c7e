-- A queue's words: what stands in the table after entries have been put there, and which changes leave a queue as it was.
-- Assumes nothing.
use Prim.Native.Nat.{ℕ, suc, ◌+◌, ◌≤◌, ◌<◌}
use native.Mathlib.Nat.{add-suc, suc-add}
use native.Mathlib.Omega.{arith}
use mathlib.Core.Path.{◌≡◌, refl, ap₂, ◌∙◌}
use mathlib.Core.Logic.{◌⊎◌, inl, inr, ⊎_elim, ◌≢◌}
use mathlib.Core.List.{List, [], ◌∷◌, map}
use lib.ListN.{length, length-map}
use Rattle.rules.specs.Range.{up_from}
use Rattle.rules.specs.Table.{width, table_length, most_actions, word, with_word}
use Rattle.rules.specs.Kind.{IsKind}
use Rattle.rules.specs.Queue.{queue_length_field, queue_length, number_field, verdict_field, ready_field, Entry, entry_at, with_entry, queue, with_entries, with_queue}
use Rattle.rules.proofs.Laws.Ranges.{map_agree, length_up_from}
use Rattle.rules.proofs.Laws.Words.{with_word_length, word_same, word_other_row, word_off_field}

-- a word of a row that is none of queue h's
abbrev pub OffEntry : ℕ → ℕ → Type 0
OffEntry h g = (g < number_field h) ⊎ (ready_field h < g)

off_field : (h g f : ℕ) → OffEntry h g → number_field h ≤ f → f ≤ ready_field h → g ≢ f
off_field h g f (inl before) first last z = omega arith
off_field h g f (inr behind) first last z = omega arith

-- ---- one entry

module _ (w : List ℕ) (h : ℕ) (known : IsKind h) (i : ℕ) (e : Entry) where
  -- the table with the number, then the verdict put in; the readiness comes last
  abbrev numbered : List ℕ
  numbered = with_word w i (number_field h) e.number

  abbrev settled : List ℕ
  settled = with_word numbered i (verdict_field h) e.verdict

  numbered_length : length numbered ≡ length w
  numbered_length = with_word_length w i (number_field h) _

  settled_length : length settled ≡ length w
  settled_length = with_word_length numbered i (verdict_field h) _ ∙ numbered_length

  pub with_entry_length : length (with_entry w h i e) ≡ length w
  unfolding with_entry
  with_entry_length = with_word_length settled i (ready_field h) _ ∙ settled_length

  -- the rows of other positions
  pub with_entry_other_row : (m g : ℕ) → g < width → m ≢ i → word (with_entry w h i e) m g ≡ word w m g
  unfolding with_entry
  with_entry_other_row m g inside ne =
      word_other_row settled i m (ready_field h) g _ (omega arith) inside ne
      ∙ word_other_row numbered i m (verdict_field h) g _ (omega arith) inside ne
      ∙ word_other_row w i m (number_field h) g _ (omega arith) inside ne

  -- words of no entry
  pub with_entry_off : (m g : ℕ) → g < width → OffEntry h g → word (with_entry w h i e) m g ≡ word w m g
  unfolding with_entry
  with_entry_off m g inside off =
      word_off_field settled i m (ready_field h) g _ (omega arith) inside (off_field h g _ off (omega arith) (omega arith))
      ∙ word_off_field numbered i m (verdict_field h) g _ (omega arith) inside (off_field h g _ off (omega arith) (omega arith))
      ∙ word_off_field w i m (number_field h) g _ (omega arith) inside (off_field h g _ off (omega arith) (omega arith))

  pub entry_at_other : (m : ℕ) → m ≢ i → entry_at (with_entry w h i e) h m ≡ entry_at w h m
  unfolding entry_at
  entry_at_other m ne =
      rw (
        with_entry_other_row m (number_field h) (omega arith) ne,
        with_entry_other_row m (verdict_field h) (omega arith) ne,
        with_entry_other_row m (ready_field h) (omega arith) ne,
      )

  module _ (long : length w ≡ table_length) (few : i ≤ most_actions) where
    number_put : word (with_entry w h i e) i (number_field h) ≡ e.number
    unfolding with_entry
    number_put =
        word_off_field settled i i (ready_field h) (number_field h) _ (omega arith) (omega arith) (λ z. omega arith)
        ∙ word_off_field numbered i i (verdict_field h) (number_field h) _ (omega arith) (omega arith) (λ z. omega arith)
        ∙ word_same w i (number_field h) _ long few (omega arith)

    verdict_put : word (with_entry w h i e) i (verdict_field h) ≡ e.verdict
    unfolding with_entry
    verdict_put =
        word_off_field settled i i (ready_field h) (verdict_field h) _ (omega arith) (omega arith) (λ z. omega arith)
        ∙ word_same numbered i (verdict_field h) _ (numbered_length ∙ long) few (omega arith)

    readiness_put : word (with_entry w h i e) i (ready_field h) ≡ e.readiness
    unfolding with_entry
    readiness_put = word_same settled i (ready_field h) _ (settled_length ∙ long) few (omega arith)

    pub entry_at_same : entry_at (with_entry w h i e) h i ≡ e
    unfolding entry_at
    entry_at_same = rw (number_put, verdict_put, readiness_put)

-- ---- several, at the positions from i on

module _ (h : ℕ) (known : IsKind h) where
  pub with_entries_length : (w : List ℕ) (i : ℕ) (es : List Entry) → length (with_entries w h i es) ≡ length w
  unfolding with_entries
  with_entries_length w i [] = refl
  with_entries_length w i (e ∷ es) = with_entries_length (with_entry w h i e) (suc i) es ∙ with_entry_length w h known i e

  -- words of no entry
  pub with_entries_off :
      (w : List ℕ) (i : ℕ) (es : List Entry) (m g : ℕ) → g < width → OffEntry h g → word (with_entries w h i es) m g ≡ word w m g
  unfolding with_entries
  with_entries_off w i [] m g inside off = refl
  with_entries_off w i (e ∷ es) m g inside off =
      with_entries_off (with_entry w h i e) (suc i) es m g inside off ∙ with_entry_off w h known i e m g inside off

  -- the rows before and behind those positions
  pub with_entries_other_row :
      (w : List ℕ) (i : ℕ) (es : List Entry) (m g : ℕ) → g < width → (m < i) ⊎ (i + length es ≤ m) →
      word (with_entries w h i es) m g ≡ word w m g
  unfolding with_entries
  with_entries_other_row w i [] m g inside apart = refl
  with_entries_other_row w i (e ∷ es) m g inside apart =
      with_entries_other_row (with_entry w h i e) (suc i) es m g inside
      (⊎_elim (λ before. inl (omega arith)) (λ behind. inr (omega (arith, add-suc i (length es), suc-add i (length es)))) apart)
      ∙ with_entry_other_row w h known i e m g inside
      (λ z. ⊎_elim (λ before. omega arith) (λ behind. omega (arith, add-suc i (length es))) apart)

  entry_before : (w : List ℕ) (i : ℕ) (es : List Entry) (m : ℕ) → m < i → entry_at (with_entries w h i es) h m ≡ entry_at w h m
  unfolding entry_at
  entry_before w i es m before =
      rw (
        with_entries_other_row w i es m (number_field h) (omega arith) (inl before),
        with_entries_other_row w i es m (verdict_field h) (omega arith) (inl before),
        with_entries_other_row w i es m (ready_field h) (omega arith) (inl before),
      )

  pub entries_same :
      (w : List ℕ) (i : ℕ) (es : List Entry) → length w ≡ table_length → i + length es ≤ suc most_actions →
      map (entry_at (with_entries w h i es) h) (up_from i (length es)) ≡ es
  unfolding with_entries up_from
  entries_same w i [] long few = refl
  entries_same w i (e ∷ es) long few =
      let now = with_entry w h i e in
      let fits : suc i + length es ≤ suc most_actions = omega (arith, add-suc i (length es), suc-add i (length es)) in
      ap₂ ◌∷◌
      (entry_before now (suc i) es i (omega arith) ∙ entry_at_same w h known i e long (omega (arith, add-suc i (length es))))
      (entries_same now (suc i) es (with_entry_length w h known i e ∙ long) fits)

  -- ---- all of them, and the length

  module _ (w : List ℕ) (es : List Entry) where
    abbrev put : List ℕ
    put = with_entries w h 1 es

    pub with_queue_length : length (with_queue w h es) ≡ length w
    unfolding with_queue
    with_queue_length = with_word_length put 0 (queue_length_field h) _ ∙ with_entries_length w 1 es

    -- every word but the entries' and the length
    pub with_queue_off :
        (m g : ℕ) → g < width → OffEntry h g → (1 ≤ m) ⊎ (g ≢ queue_length_field h) → word (with_queue w h es) m g ≡ word w m g
    unfolding with_queue
    with_queue_off m g inside off (inl row) =
        word_other_row put 0 m (queue_length_field h) g _ (omega arith) inside (λ z. omega arith) ∙ with_entries_off w 1 es m g inside off
    with_queue_off m g inside off (inr field) =
        word_off_field put 0 m (queue_length_field h) g _ (omega arith) inside field ∙ with_entries_off w 1 es m g inside off

    module _ (long : length w ≡ table_length) where
      pub queue_length_same : queue_length (with_queue w h es) h ≡ length es
      unfolding with_queue
      queue_length_same = word_same put 0 (queue_length_field h) _ (with_entries_length w 1 es ∙ long) (omega arith) (omega arith)

      entry_kept : (i : ℕ) → 1 ≤ i → entry_at (with_queue w h es) h i ≡ entry_at put h i
      unfolding with_queue entry_at
      entry_kept i one =
          rw (
            word_other_row put 0 i (queue_length_field h) (number_field h) (length es) (omega arith) (omega arith) (λ z. omega arith),
            word_other_row put 0 i (queue_length_field h) (verdict_field h) (length es) (omega arith) (omega arith) (λ z. omega arith),
            word_other_row put 0 i (queue_length_field h) (ready_field h) (length es) (omega arith) (omega arith) (λ z. omega arith),
          )

      pub queue_same : length es ≤ most_actions → queue (with_queue w h es) h ≡ es
      unfolding queue
      queue_same few =
          rw queue_length_same
          (map_agree (entry_at (with_queue w h es) h) (entry_at put h) 1 (length es) (λ i r. entry_kept i r.0)
          ∙ entries_same w 1 es long (omega arith))

-- ---- a queue that stays

pub length_of_queue : (w : List ℕ) (h : ℕ) → length (queue w h) ≡ queue_length w h
unfolding queue
length_of_queue w h = length-map (up_from 1 (queue_length w h)) (entry_at w h) ∙ length_up_from 1 (queue_length w h)

-- queue h's words are the same in v
pub record SameLine (w v : List ℕ) (h : ℕ) : Type 0 where
  pub same_length : queue_length v h ≡ queue_length w h
  pub same_entries : (i g : ℕ) → 1 ≤ i → number_field h ≤ g → g ≤ ready_field h → word v i g ≡ word w i g

pub queue_kept : (w v : List ℕ) (h : ℕ) → IsKind h → SameLine w v h → queue v h ≡ queue w h
unfolding queue entry_at
queue_kept w v h known same =
    rw same.same_length
    (map_agree (entry_at v h) (entry_at w h) 1 (queue_length w h)
    (λ i r.
    rw (
      same.same_entries i (number_field h) r.0 (omega arith) (omega arith),
      same.same_entries i (verdict_field h) r.0 (omega arith) (omega arith),
      same.same_entries i (ready_field h) r.0 (omega arith) (omega arith),
    )))
