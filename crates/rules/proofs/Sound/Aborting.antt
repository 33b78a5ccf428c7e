-- An abort's table: the live actions at or below the one aborted become aborted and nothing else changes, so the table stays
-- sound; and the answer counts them. Assumes nothing.
use Prim.Native.Nat.{ℕ, ◌≤◌, ◌<◌, ◌+◌}
use native.Mathlib.Nat.{le_of_eq}
use native.Mathlib.Omega.{arith}
use mathlib.Core.Path.{◌≡◌, refl, sym, ap, ap₂, ◌∙◌}
use mathlib.Core.Logic.{inl, inr, ◌≢◌}
use mathlib.Core.Bool.{Bool, true, false, not, cond, ◌&&◌, ◌||◌}
use mathlib.Core.List.{List}
use borrow.Author.Tests.{eqb-true, not-true}
use lib.Dec.{eqb}
use lib.ListN.{length}
use Rattle.rules.specs.declared.Answer.TheVariants.{Aborted}
use Rattle.rules.specs.Range.{count}
use Rattle.rules.specs.Kind.{IsKind}
use Rattle.rules.specs.Table.{has_end, width, live, committed, aborted, word, highest_field, highest, counter_field, counter, parent_field, parent_of, state_field, state_of, end_field, read_field, sub_time_field, write_field, pending_field, is_live, is_committed, actions, newest_field, rule_field}
use Rattle.rules.specs.Walk.{is_at_or_below, is_aborted_by}
use Rattle.rules.specs.Queue.{queue_length_field, is_queued}
use Rattle.rules.specs.Sound.{has_state, IsGiven, Sound}
use Rattle.rules.specs.Ledger.{Ledger}
use Rattle.rules.specs.Step.{abort_table, out_of_both, dropped, abort_left, abort}
use Rattle.rules.proofs.Laws.Tests.{and_left, and_right, and_both, cond_holds}
use Rattle.rules.proofs.Laws.Ranges.{count_some, any_at, count_agree}
use Rattle.rules.proofs.Laws.RowPass.{pass_length, pass_other_field, pass_other_row, pass_field}
use Rattle.rules.proofs.Laws.Queue.{SameLine}
use Rattle.rules.proofs.Sound.TableChanges.{ReadsFrom, TableChange, bounds_stay, sum_stays, line_stays, writes_agree, same_read, RowKept, Ended, calm_newest, action_width, live_uncommitted}
use Rattle.rules.proofs.Sound.TakingOut.{out_sound, out_keeps, out_reach}
use Rattle.rules.proofs.Laws.Walking.{at_or_below_itself, not_below_parent}

-- ---- the table after an abort of n

-- action m was live in the table w and is aborted in the table v
abbrev pub became_aborted : List ℕ → List ℕ → ℕ → Bool
became_aborted w v m = is_live w m && eqb (state_of v m) aborted

module _ (w : List ℕ) (n : ℕ) where
  pub abort_length : length (abort_table w n) ≡ length w
  unfolding abort_table actions
  abort_length = pass_length (is_aborted_by w n) state_field (omega arith) (λ _. aborted) (highest w) w

  -- every field but the states
  pub abort_keeps_field : (m g : ℕ) → g < width → g ≢ state_field → word (abort_table w n) m g ≡ word w m g
  unfolding abort_table actions
  abort_keeps_field = pass_other_field (is_aborted_by w n) state_field (omega arith) (λ _. aborted) (highest w) w

  -- every row that is not reached: the head's, those above the highest number, and those of the other actions
  pub abort_keeps_row :
      (m g : ℕ) → g < width → (IsGiven w m → is_aborted_by w n m ≡ true → ⊥) → word (abort_table w n) m g ≡ word w m g
  unfolding abort_table actions
  abort_keeps_row = pass_other_row (is_aborted_by w n) state_field (omega arith) (λ _. aborted) (highest w) w

  module _ (s : Sound w) where
    pub abort_state : (m : ℕ) → IsGiven w m → state_of (abort_table w n) m ≡ cond (is_aborted_by w n m) aborted (state_of w m)
    unfolding abort_table actions
    abort_state = pass_field (is_aborted_by w n) state_field (omega arith) (λ _. aborted) (highest w) w s.long s.few

    -- an action is live afterwards where it was and is not at or below n
    pub abort_live : (m : ℕ) → IsGiven w m → is_live (abort_table w n) m ≡ (is_live w m && not (is_at_or_below w n m))
    abort_live m h = rw (abort_state m h) (left (is_live w m) (is_at_or_below w n m) refl)
      where
        left : (l b : Bool) → is_live w m ≡ l → eqb (cond (l && b) aborted (state_of w m)) live ≡ (l && not b)
        left true true e = refl
        left true false e = e
        left false b e = e

    -- ---- it keeps the table sound

    highest_kept : highest (abort_table w n) ≡ highest w
    highest_kept = abort_keeps_field 0 highest_field (omega arith) (λ z. omega arith)

    counter_kept : (h : ℕ) → IsKind h → counter (abort_table w n) h ≡ counter w h
    counter_kept h known = abort_keeps_row 0 (counter_field h) (omega arith) (λ begun _. omega arith)

    state_valid : (m : ℕ) → IsGiven w m → has_state (abort_table w n) m ≡ true
    state_valid m h =
        rw (abort_state m h)
        (cond_holds (λ x. (eqb x live || eqb x committed || eqb x aborted) ≡ true) (is_aborted_by w n m) (λ q. refl) (λ q. s.states m h))

    live_before : (m : ℕ) → IsGiven w m → is_live (abort_table w n) m ≡ true → is_live w m ≡ true
    live_before m h l = and_left (is_live w m) _ (sym (abort_live m h) ∙ l)

    -- a live action that is left has its parent left: were the parent at or below n, the action would be too
    parent_left :
        (m : ℕ) → IsGiven w m → is_live (abort_table w n) m ≡ true → is_live w (parent_of w m) ≡ true → 1 ≤ parent_of w m →
        is_live (abort_table w n) (parent_of w m) ≡ true
    parent_left m h l p one =
        let out = not-true (is_at_or_below w n m) (and_right (is_live w m) _ (sym (abort_live m h) ∙ l)) in
        rw (abort_live (parent_of w m) (one, s.known m h))
        (and_both p (ap not (not_below_parent w n m (λ z. omega arith) (s.climb m h (live_before m h l)) out)))

    -- what becomes aborted was live, not committed
    pub abort_keeps_committed : (m : ℕ) → IsGiven w m → is_committed (abort_table w n) m ≡ is_committed w m
    abort_keeps_committed m h =
        rw (abort_state m h)
        (cond_holds (λ x. eqb x committed ≡ is_committed w m) (is_aborted_by w n m)
        (λ q. rw (eqb-true (state_of w m) live (and_left (is_live w m) _ q)))
        (λ q. refl))

    end_kept : (m : ℕ) → IsGiven w m → has_end (abort_table w n) m ≡ has_end w m
    end_kept m h =
        ap₂ ◌&&◌ (abort_keeps_committed m h)
        (writes_agree w _ m (λ k hk. abort_keeps_field m (write_field k) (omega arith) (λ z. omega arith)))

    reads_kept : ReadsFrom w (abort_table w n)
    reads_kept h m k known begun l hk =
        same_read w (abort_table w n) h m k (abort_keeps_field m (read_field k) (omega arith) (λ z. omega arith))
        (abort_keeps_field m (sub_time_field k) (omega arith) (λ z. omega arith))

    -- what becomes aborted was live, not committed
    finals_kept : (m : ℕ) → is_committed w m ≡ true → RowKept w (abort_table w n) m
    finals_kept m did g inside =
        abort_keeps_row m g (action_width g inside)
        (λ given reached. live_uncommitted w m (and_left (is_live w m) _ reached) did)

    ends_kept : (m : ℕ) → IsGiven w m → has_end (abort_table w n) m ≡ true → Ended w (abort_table w n) n m
    ends_kept m h e = inl (sym (end_kept m h) ∙ e, abort_keeps_field m end_field (omega arith) (λ z. omega arith))

    pub abort_line : (h : ℕ) → IsKind h → SameLine w (abort_table w n) h
    abort_line h known =
        record {
          same_length = abort_keeps_field 0 (queue_length_field h) (omega arith) (λ z. omega arith);
          same_entries = λ i g _ first last. abort_keeps_field i g (omega arith) (λ z. omega arith);
        }

    -- nobody who waits is reached
    abbrev pub Spared : Type 0
    Spared = (h : ℕ) → IsKind h → (m : ℕ) → is_queued w h m ≡ true → is_aborted_by w n m ≡ false

    -- whoever waits and isn't reached stays live
    waiting_left : Spared → (h : ℕ) → IsKind h → (m : ℕ) → is_queued w h m ≡ true → is_live (abort_table w n) m ≡ true
    waiting_left spared h known m queued =
        let may = (s.lines h known).waits m queued in
        rw (abort_state m may.begun, spared h known m queued) may.alive

    pub abort_change : Spared → TableChange w (abort_table w n) n
    abort_change spared =
        record {
          long = abort_length ∙ s.long;
          same_highest = highest_kept;
          same_rule = ap (λ x. x + 1) (abort_keeps_field 0 rule_field (omega arith) (λ z. omega arith));
          rising = λ h known. le_of_eq (sym (counter_kept h known));
          bounded = bounds_stay s (abort_table w n) counter_kept (λ h known. (abort_line h known).same_length);
          states = state_valid;
          parents = λ m h. abort_keeps_field m parent_field (omega arith) (λ z. omega arith);
          was_live = live_before;
          parent_stays = parent_left;
          reads = reads_kept;
          ends = ends_kept;
          finals = λ m h. finals_kept m;
          newests =
              λ p k known account.
              calm_newest counter_kept ends_kept p k (abort_keeps_field p (newest_field k) (omega arith) (λ z. omega arith));
          pendings =
              λ m k h charge.
              sum_stays w (abort_table w n) m k (abort_keeps_field m (write_field k) (omega arith) (λ z. omega arith))
              (abort_keeps_field m (pending_field k) (omega arith) (λ z. omega arith));
          lines =
              λ h known.
              line_stays w (abort_table w n) s h known (abort_line h known) highest_kept
              (λ m _. abort_keeps_field m parent_field (omega arith) (λ z. omega arith)) live_before (waiting_left spared h known);
        }

    -- ---- RULES 2.6: the count of the answer

    -- n is one of them
    pub abort_counts_itself : IsGiven w n → is_live w n ≡ true → 1 ≤ count (is_aborted_by w n) (actions w)
    unfolding actions
    abort_counts_itself h l =
        count_some (is_aborted_by w n) _
        (any_at (is_aborted_by w n) 1 (highest w) n (omega arith) (and_both l (at_or_below_itself w n (λ z. omega arith) (s.climb n h l))))

    reached_became_aborted : (m : ℕ) → IsGiven w m → is_aborted_by w n m ≡ became_aborted w (abort_table w n) m
    reached_became_aborted m h = rw (abort_state m h) (reached (is_live w m) (is_at_or_below w n m) refl)
      where
        reached : (l b : Bool) → is_live w m ≡ l → (l && b) ≡ (l && eqb (cond (l && b) aborted (state_of w m)) aborted)
        reached true true e = refl
        reached true false e = rw (eqb-true (state_of w m) live e)
        reached false b e = refl

-- the answer's first number is that of the actions which were live and are aborted before a head is tried
module _ (s : Ledger) (n : ℕ) (sound : Sound s.table) where
  -- those who wait and are reached have been taken out, by a change of the queues alone
  dropped_aborted :
      (m : ℕ) → IsGiven s.table m →
      is_aborted_by s.table n m ≡ became_aborted s.table (abort_table (out_of_both s.table n) n) m
  dropped_aborted m h =
      let kept = out_keeps sound n in
      sym (out_reach sound n m)
      ∙ reached_became_aborted (out_of_both s.table n) n (out_sound sound n) m
      (rw (kept 0 highest_field (inl (omega arith)) (inr (inl (omega arith)))) h)
      ∙ rw (kept m state_field (inl (omega arith)) (inr (inl (omega arith))))

  pub abort_counts :
      (abort s n).answer
      ≡ Aborted (count (became_aborted s.table (dropped s n).table) (actions s.table)) (abort_left s n).many
  unfolding abort dropped actions
  abort_counts =
      ap (λ c. Aborted c (abort_left s n).many)
      (count_agree _ _ 1 (highest s.table) (λ m r. dropped_aborted m (omega arith)))
