-- What holds between two turns of an abort's loop, which marks the table as it goes. Only states change, and each only as its
-- action is passed; so the tests of the actions still to come are those of the table at entry. Assumes nothing.
use Prim.Native.Nat.{ℕ, ◌+◌, ◌-◌, ◌≤◌, ◌<◌}
use native.Mathlib.Nat.{le_refl}
use native.Mathlib.Omega.{arith}
use native.Mathlib.Decide.{ℕ_discrete}
use mathlib.Core.Path.{◌≡◌, refl, sym, ap, ap₂, ◌∙◌, fun_ext}
use mathlib.Core.Logic.{◌≢◌}
use mathlib.Core.Bool.{true, false, cond, ◌&&◌}
use mathlib.Core.List.{List}
use lib.Dec.{eqb}
use lib.ListN.{length}
use Rattle.rules.specs.Range.{up_from, count, fold}
use Rattle.rules.specs.Table.{width, live, aborted, highest_field, parent_field, state_field, word, highest, parent_of, state_of, with_state, is_live, actions}
use Rattle.rules.specs.Walk.{is_aborted_by}
use Rattle.rules.specs.Step.{abort_table}
use Rattle.rules.proofs.Laws.Tests.{and_left}
use Rattle.rules.proofs.Laws.Ranges.{count_at_most, count_left_here, count_left_next, count_left_done, fold_left_next, fold_left_done}
use Rattle.rules.proofs.Laws.Walking.{at_or_below_agree}
use Rattle.rules.proofs.Laws.Words.{with_word_length, word_other_row, word_off_field}
use Rattle.ancestry.specs.Ancestry.{LiveClimb}

-- what the abort of n in the table w does for action m
abbrev pub mark : List ℕ → ℕ → ℕ → List ℕ → List ℕ
mark w n m now = cond (is_aborted_by w n m) (with_state now m aborted) now

-- the actions from m on
abbrev pub ahead : List ℕ → ℕ → List ℕ
ahead w m = up_from m (highest w + 1 - m)

-- The abort of n in the table w has come to action m, with `found` aborted and v the table by now.
pub record Reached (w : List ℕ) (n : ℕ) (v : List ℕ) (found m : ℕ) : Type 0 where
  pub first : 1 ≤ m
  pub long : length v ≡ length w
  pub fields : (x g : ℕ) → g < width → g ≢ state_field → word v x g ≡ word w x g
  pub states : (x : ℕ) → m ≤ x → state_of v x ≡ state_of w x
  -- nobody becomes live
  pub was_live : (x : ℕ) → is_live v x ≡ true → is_live w x ≡ true
  pub counted : count (is_aborted_by w n) (actions w) ≡ found + count (is_aborted_by w n) (ahead w m)
  pub leaves : abort_table w n ≡ fold (mark w n) (ahead w m) v

module _ (w : List ℕ) (n : ℕ) where
  pub reached_first : Reached w n w 0 1
  unfolding abort_table actions
  reached_first =
      let all : highest w + 1 - 1 ≡ highest w = omega arith in
      record {
        first = le_refl 1;
        long = refl;
        fields = λ x g hg ne. refl;
        states = λ x h. refl;
        was_live = λ x l. l;
        counted = rw all (omega arith);
        leaves = rw all;
      }

  module _ {v : List ℕ} {found m : ℕ} (r : Reached w n v found m) where
    same_highest : highest v ≡ highest w
    same_highest = r.fields 0 highest_field (omega arith) (λ z. omega arith)

    pub known_kept : m ≤ highest w → m ≤ highest v
    known_kept h = omega (arith, same_highest)

    pub found_few : found ≤ highest w
    unfolding actions
    found_few = omega (arith, r.counted, count_at_most (is_aborted_by w n) 1 (highest w))

    pub reached_last : highest w + 1 ≤ m → (found ≡ count (is_aborted_by w n) (actions w)) × (v ≡ abort_table w n)
    reached_last h = (
      omega (arith, r.counted, count_left_done (is_aborted_by w n) m (highest w + 1) h),
      sym (r.leaves ∙ fold_left_done (mark w n) m (highest w + 1) v h),
    )

    module _ (s : LiveClimb w) where
      same_parent : (x : ℕ) → parent_of v x ≡ parent_of w x
      same_parent x = r.fields x parent_field (omega arith) (λ z. omega arith)

      pub live_climb_kept : LiveClimb v
      live_climb_kept =
          record {
            long = r.long ∙ s.long;
            few = omega (arith, same_highest, s.few);
            known = λ x h. rw (same_parent x, same_highest) (s.known x (omega (arith, same_highest)));
            climb = λ x h l. rw (fun_ext same_parent) (s.climb x (omega (arith, same_highest)) (r.was_live x l));
          }

      test_kept : is_aborted_by v n m ≡ is_aborted_by w n m
      test_kept =
          ap₂ ◌&&◌ (ap (λ x. eqb x live) (r.states m (le_refl m))) (at_or_below_agree w v same_parent n m)

      -- action m is passed over, or it is marked
      pub reached_over : m ≤ highest w → is_aborted_by v n m ≡ false → Reached w n v found (m + 1)
      reached_over h e =
          let out = sym test_kept ∙ e in
          record {
            first = omega arith;
            long = r.long;
            fields = r.fields;
            states = λ x later. r.states x (omega arith);
            was_live = r.was_live;
            counted = omega (arith, r.counted, count_left_next (is_aborted_by w n) m (highest w + 1) (omega arith) out);
            leaves = r.leaves ∙ fold_left_next (mark w n) m (highest w + 1) v (omega arith) ∙ rw out;
          }

      pub reached_here : m ≤ highest w → is_aborted_by v n m ≡ true → Reached w n (with_state v m aborted) (found + 1) (m + 1)
      reached_here h e =
          let into = sym test_kept ∙ e in
          record {
            first = omega arith;
            long = with_word_length v m _ _ ∙ r.long;
            fields = λ x g hg ne. word_off_field v m x state_field g _ (omega arith) hg ne ∙ r.fields x g hg ne;
            states = λ x later.
                word_other_row v m x state_field state_field _ (omega arith) (omega arith) (λ z. omega arith)
                ∙ r.states x (omega arith);
            was_live = λ x l. live_before into x l (ℕ_discrete x m);
            counted = omega (arith, r.counted, count_left_here (is_aborted_by w n) m (highest w + 1) (omega arith) into);
            leaves = r.leaves ∙ fold_left_next (mark w n) m (highest w + 1) v (omega arith) ∙ rw into;
          }
        where
          live_before :
              is_aborted_by w n m ≡ true → (x : ℕ) → is_live (with_state v m aborted) x ≡ true → Dec (x ≡ m) → is_live w x ≡ true
          live_before into x l (yes same) = rw same (and_left (is_live w m) _ into)
          live_before into x l (no other) =
              r.was_live x (rw (word_other_row v m x state_field state_field _ (omega arith) (omega arith) other) at l)
