-- What holds between two turns of the loop that takes entries out and closes up. Only words of entries change, and only at
-- positions that are passed; so whom an abort reaches, and the entries still to come, are those of the table at entry.
-- Assumes nothing.
use Prim.Native.Nat.{ℕ, suc, ◌+◌, ◌-◌, ◌≤◌, ◌<◌}
use native.Mathlib.Nat.{zero-add, add-zero}
use native.Mathlib.Numerals.{add-one}
use native.Mathlib.Omega.{arith}
use mathlib.Core.Path.{◌≡◌, refl, sym, ap, ◌∙◌, fun_ext}
use mathlib.Core.Logic.{inl}
use mathlib.Core.Bool.{true, false}
use mathlib.Core.List.{List, ◌∷◌, map}
use lib.ListN.{length}
use Rattle.rules.specs.Range.{up_from, filter}
use Rattle.rules.specs.Table.{width, highest_field, parent_field, state_field, word, highest, parent_of, state_of}
use Rattle.rules.specs.Walk.{is_aborted_by}
use Rattle.rules.specs.Kind.{IsKind}
use Rattle.rules.specs.Sound.{IsGiven}
use Rattle.rules.specs.Queue.{number_field, queue_length, with_queue_length, Entry, entry_at, with_entry, queue, with_entries, with_queue, keeps_place, without_below}
use Rattle.rules.proofs.Laws.Ranges.{left_next, left_done}
use Rattle.rules.proofs.Laws.Queue.{OffEntry, with_entry_length, with_entry_off, entry_at_other}
use Rattle.rules.proofs.Laws.QueueLoops.{queued_at, aborted_by_kept}
use Rattle.ancestry.specs.Ancestry.{LiveClimb}
use Rattle.queue.specs.Line.{AreKnown}

-- the entries from position i on of those whom an abort of n does not reach
abbrev staying : List ℕ → ℕ → ℕ → ℕ → List Entry
staying w h n i = filter (keeps_place w n) (map (entry_at w h) (up_from i (queue_length w h + 1 - i)))

module _ (w : List ℕ) (h n i : ℕ) where
  staying_over : i ≤ queue_length w h → is_aborted_by w n (entry_at w h i).number ≡ true → staying w h n i ≡ staying w h n (i + 1)
  unfolding filter keeps_place
  staying_over inside out = rw (left_next i (queue_length w h + 1) (omega arith), out)

  staying_here :
      i ≤ queue_length w h → is_aborted_by w n (entry_at w h i).number ≡ false →
      staying w h n i ≡ entry_at w h i ∷ staying w h n (i + 1)
  unfolding filter keeps_place
  staying_here inside stays = rw (left_next i (queue_length w h + 1) (omega arith), stays)

-- Those of w whom an abort of n does not reach have closed up as far as position i: `kept` of them stay so far, and v is the
-- table by now.
pub record Closed (w : List ℕ) (h n : ℕ) (v : List ℕ) (kept i : ℕ) : Type 0 where
  pub behind : kept < i
  pub long : length v ≡ length w
  pub fields : (m g : ℕ) → g < width → OffEntry h g → word v m g ≡ word w m g
  pub entries : (j : ℕ) → i ≤ j → entry_at v h j ≡ entry_at w h j
  pub leaves :
      without_below w h n
      ≡ with_queue_length (with_entries v h (kept + 1) (staying w h n i)) h (kept + length (staying w h n i))

module _ (w : List ℕ) (h n : ℕ) where
  pub closed_first : Closed w h n w 0 1
  unfolding without_below with_queue queue
  closed_first =
      let all : queue_length w h + 1 - 1 ≡ queue_length w h = omega arith in
      record {
        behind = omega arith;
        long = refl;
        fields = λ m g inside off. refl;
        entries = λ j ahead. refl;
        leaves = rw (all, zero-add (length (filter (keeps_place w n) (queue w h))));
      }

  module _ {v : List ℕ} {kept i : ℕ} (r : Closed w h n v kept i) where
    pub closed_last : queue_length w h + 1 ≤ i → with_queue_length v h kept ≡ without_below w h n
    unfolding filter with_entries
    closed_last done = sym (r.leaves ∙ rw (left_done i (queue_length w h + 1) done, add-zero))

    module _ (known : IsKind h) (s : LiveClimb w) where
      same_highest : highest v ≡ highest w
      same_highest = r.fields 0 highest_field (omega arith) (inl (omega arith))

      same_parent : (m : ℕ) → parent_of v m ≡ parent_of w m
      same_parent m = r.fields m parent_field (omega arith) (inl (omega arith))

      same_state : (m : ℕ) → state_of v m ≡ state_of w m
      same_state m = r.fields m state_field (omega arith) (inl (omega arith))

      pub live_climb_kept : LiveClimb v
      live_climb_kept =
          record {
            long = r.long ∙ s.long;
            few = omega (arith, same_highest, s.few);
            known = λ m begun. rw (same_parent m, same_highest) (s.known m (omega (arith, same_highest)));
            climb =
                λ m begun alive. rw (fun_ext same_parent) (s.climb m (omega (arith, same_highest)) (rw (same_state m) at alive));
          }

      -- m stands at i
      module _ (waits : AreKnown w h) (inside : i ≤ queue_length w h) {m : ℕ} (number : m ≡ word v i (number_field h)) where
        same_number : m ≡ word w i (number_field h)
        unfolding entry_at
        same_number = number ∙ ap (λ e. e.number) (r.entries i (omega arith))

        known_there : IsGiven w m
        known_there = rw same_number (waits _ (queued_at w h i (omega (arith, r.behind)) inside))

        pub known_kept : IsGiven v m
        known_kept = (known_there.0, omega (arith, same_highest, known_there.1))

        test_kept : is_aborted_by v n m ≡ is_aborted_by w n (entry_at w h i).number
        unfolding entry_at
        test_kept =
            aborted_by_kept w v h known r.fields n m ∙ ap (is_aborted_by w n) same_number

        -- its entry goes, or it stays
        pub closed_over : is_aborted_by v n m ≡ true → Closed w h n v kept (i + 1)
        closed_over e =
            record {
              behind = omega (arith, r.behind);
              long = r.long;
              fields = r.fields;
              entries = λ j ahead. r.entries j (omega arith);
              leaves = r.leaves ∙ rw (staying_over w h n i inside (sym test_kept ∙ e));
            }

        pub closed_here :
            is_aborted_by v n m ≡ false → Closed w h n (with_entry v h (kept + 1) (entry_at v h i)) (kept + 1) (i + 1)
        unfolding with_entries
        closed_here e =
            let rest = staying w h n (i + 1) in
            let longer : kept + suc (length rest) ≡ kept + 1 + length rest = omega arith in
            record {
              behind = omega (arith, r.behind);
              long = with_entry_length v h known _ _ ∙ r.long;
              fields = λ x g field off. with_entry_off v h known _ _ x g field off ∙ r.fields x g field off;
              entries = λ j ahead. entry_at_other v h known _ _ j (λ z. omega (arith, r.behind)) ∙ r.entries j (omega arith);
              leaves =
                  r.leaves
                  ∙ rw (
                    staying_here w h n i inside (sym test_kept ∙ e),
                    longer,
                    r.entries i (omega arith),
                    add-one (kept + 1),
                  );
            }
