-- A read's table: the reader's entry for the account and the subaction time beside it may change, and the table stays sound.
-- Assumes nothing.
use Prim.Native.Nat.{ℕ, zero, suc, ◌+◌, ◌-◌, ◌<◌}
use native.Mathlib.Omega.{arith}
use native.Mathlib.Decide.{ℕ_discrete}
use mathlib.Core.Path.{◌≡◌, refl, sym, ap, ap₂, ◌∙◌}
use mathlib.Core.Logic.{◌⊎◌, inl, inr, ◌≢◌}
use mathlib.Core.Bool.{Bool, true, false, cond, ◌&&◌}
use mathlib.Core.List.{List}
use lib.Dec.{eqb}
use lib.ListN.{length}
use Rattle.rules.specs.Card.{account_count}
use Rattle.rules.specs.Kind.{IsKind, top_kind, sub_kind}
use Rattle.rules.specs.Table.{has_end, width, committed, word, highest_field, counter_field, counter, parent_field, state_field, state_of, end_field, read_field, read_entry, with_read, sub_time_field, sub_time, write_field, pending_field, is_live, is_committed, newest_field, rule_field}
use Rattle.rules.specs.Queue.{queue_length_field}
use Rattle.rules.specs.Sound.{IsGiven, Sound}
use Rattle.rules.specs.Step.{leaves_read_set, with_read_now, read_table}
use Rattle.rules.proofs.Laws.Words.{with_word_length, word_same, word_other_row, word_other_field, word_off_field}
use Rattle.rules.proofs.Laws.Queue.{SameLine}
use Rattle.rules.proofs.Sound.TableChanges.{ReadsFrom, TableChange, bounds_stay, sum_stays, quiet_line, quiet_change, writes_agree, ReadFrom, same_read, made_now, RowKept, action_width, live_uncommitted}
use Rattle.rules.proofs.Laws.Tests.{cond_holds}

-- ---- the table after a read of account k by n

-- action m's read of account j in the table v, after w: as it was, or made with both counters as its times
abbrev pub OldOrNew : List ℕ → List ℕ → ℕ → ℕ → Type 0
OldOrNew w v m j =
    ((read_entry v m j ≡ read_entry w m j) × (sub_time v m j ≡ sub_time w m j))
    ⊎ ((read_entry v m j ≡ counter w top_kind + 1) × (sub_time v m j ≡ counter w sub_kind))

-- of either kind the new time is that kind's counter
pub new_time :
    (w : List ℕ) (h : ℕ) → IsKind h → cond (eqb h top_kind) (counter w top_kind + 1 - 1) (counter w sub_kind) ≡ counter w h
new_time w zero known = omega arith
new_time w (suc zero) known = refl
new_time w (suc (suc h)) known = absurd (omega arith)

module _ (w : List ℕ) (n k : ℕ) (account : k < account_count) where
  -- the table with the entry put in; the subaction time comes last
  abbrev with_entry : List ℕ
  with_entry = with_read w n k (counter w top_kind + 1)

  -- what holds before, and with the read put in, holds after the read
  read_holds : (P : List ℕ → Type 0) → P w → P (with_read_now w n k) → P (read_table w n k)
  unfolding read_table
  read_holds P old new = cond_holds P (leaves_read_set w n k) (λ e. old) (λ e. new)

  pub read_length : length (read_table w n k) ≡ length w
  read_length = read_holds (λ v. length v ≡ length w) refl (with_word_length with_entry n _ _ ∙ with_word_length w n _ _)

  -- every field but the account's read entry and subaction time
  pub read_keeps_field :
      (m g : ℕ) → g < width → g ≢ read_field k → g ≢ sub_time_field k → word (read_table w n k) m g ≡ word w m g
  read_keeps_field m g hg entry time =
      read_holds (λ v. word v m g ≡ word w m g) refl
      (word_off_field with_entry n m (sub_time_field k) g _ (omega arith) hg time
      ∙ word_off_field w n m (read_field k) g _ (omega arith) hg entry)

  -- every row but the reader's
  pub read_keeps_row : (m g : ℕ) → g < width → m ≢ n → word (read_table w n k) m g ≡ word w m g
  read_keeps_row m g hg ne =
      read_holds (λ v. word v m g ≡ word w m g) refl
      (word_other_row with_entry n m (sub_time_field k) g _ (omega arith) hg ne
      ∙ word_other_row w n m (read_field k) g _ (omega arith) hg ne)

  -- where the read set stays, the whole table does
  pub read_again : leaves_read_set w n k ≡ true → read_table w n k ≡ w
  unfolding read_table
  read_again stays = rw stays

  counter_kept : (h : ℕ) → IsKind h → counter (read_table w n k) h ≡ counter w h
  counter_kept h known = read_keeps_field 0 (counter_field h) (omega arith) (λ z. omega arith) (λ z. omega arith)

  state_kept : (m : ℕ) → state_of (read_table w n k) m ≡ state_of w m
  state_kept m = read_keeps_field m state_field (omega arith) (λ z. omega arith) (λ z. omega arith)

  end_kept : (m : ℕ) → has_end (read_table w n k) m ≡ has_end w m
  end_kept m =
      ap₂ ◌&&◌ (ap (λ x. eqb x committed) (state_kept m))
      (writes_agree w _ m (λ j hj. read_keeps_field m (write_field j) (omega arith) (λ z. omega arith) (λ z. omega arith)))

  module _ (s : Sound w) where
    -- RULES 2.3
    module _ (own : IsGiven w n) where
      put_entry : read_entry (with_read_now w n k) n k ≡ counter w top_kind + 1
      put_entry =
          word_other_field with_entry n (sub_time_field k) (read_field k) _ (λ z. omega arith)
          ∙ word_same w n (read_field k) _ s.long (omega (arith, own, s.few)) (omega arith)

      put_time : sub_time (with_read_now w n k) n k ≡ counter w sub_kind
      put_time =
          word_same with_entry n (sub_time_field k) _ (with_word_length w n _ _ ∙ s.long) (omega (arith, own, s.few)) (omega arith)

      pub entry_read : read_entry (read_table w n k) n k ≡ cond (leaves_read_set w n k) (read_entry w n k) (counter w top_kind + 1)
      unfolding read_table
      entry_read = go (leaves_read_set w n k)
        where
          go : (b : Bool) → read_entry (cond b w (with_read_now w n k)) n k ≡ cond b (read_entry w n k) (counter w top_kind + 1)
          go true = refl
          go false = put_entry

      own_entry : OldOrNew w (read_table w n k) n k
      own_entry = read_holds (λ v. OldOrNew w v n k) (inl (refl, refl)) (inr (put_entry, put_time))

    pub entry_after : (m j : ℕ) → IsGiven w m → j < account_count → OldOrNew w (read_table w n k) m j
    entry_after m j begun hj = go (ℕ_discrete m n) (ℕ_discrete j k)
      where
        kept : (g : ℕ) → g < width → g ≢ read_field k → g ≢ sub_time_field k → word (read_table w n k) m g ≡ word w m g
        kept = read_keeps_field m

        go : Dec (m ≡ n) → Dec (j ≡ k) → OldOrNew w (read_table w n k) m j
        go (no ne) _ = inl (read_keeps_row m (read_field j) (omega arith) ne, read_keeps_row m (sub_time_field j) (omega arith) ne)
        go (yes e) (no ne) =
            inl (
              kept (read_field j) (omega arith) (λ z. ne (omega arith)) (λ z. omega arith),
              kept (sub_time_field j) (omega arith) (λ z. omega arith) (λ z. ne (omega arith)),
            )
        go (yes e) (yes f) = rw (e, f) (own_entry (rw e at begun))

    reads_from : ReadsFrom w (read_table w n k)
    reads_from h m j known begun l hj has = go (entry_after m j begun hj)
      where
        go : OldOrNew w (read_table w n k) m j → ReadFrom w (read_table w n k) h m j
        go (inl (entry, time)) = same_read w (read_table w n k) h m j entry time has
        go (inr (entry, time)) = made_now (rw (entry, time) (new_time w h known))

    -- a committed action isn't the reader, which is live
    finals_kept : is_live w n ≡ true → (m : ℕ) → is_committed w m ≡ true → RowKept w (read_table w n k) m
    finals_kept alive m did g inside =
        read_keeps_row m g (action_width g inside) (λ same. live_uncommitted w n alive (rw same at did))

    pub read_line : IsGiven w n → (h : ℕ) → IsKind h → SameLine w (read_table w n k) h
    read_line own h known =
        record {
          same_length = read_keeps_row 0 (queue_length_field h) (omega arith) (λ z. omega (arith, own));
          same_entries = λ i g _ first last. read_keeps_field i g (omega arith) (λ z. omega arith) (λ z. omega arith);
        }

    pub read_change : IsGiven w n → is_live w n ≡ true → TableChange w (read_table w n k) n
    read_change own alive =
        quiet_change w (read_table w n k) n s read_length
        (read_keeps_field 0 highest_field (omega arith) (λ z. omega arith) (λ z. omega arith))
        (ap (λ x. x + 1) (read_keeps_row 0 rule_field (omega arith) (λ z. omega (arith, own))))
        counter_kept (bounds_stay s (read_table w n k) counter_kept (λ h known. (read_line own h known).same_length))
        (λ m. read_keeps_field m parent_field (omega arith) (λ z. omega arith) (λ z. omega arith))
        state_kept reads_from
        (λ m h e. inl (sym (end_kept m) ∙ e, read_keeps_field m end_field (omega arith) (λ z. omega arith) (λ z. omega arith)))
        (λ m h. finals_kept alive m)
        (λ p j hj. read_keeps_field p (newest_field j) (omega arith) (λ z. omega arith) (λ z. omega arith))
        (λ m j h charge.
        sum_stays w (read_table w n k) m j (read_keeps_field m (write_field j) (omega arith) (λ z. omega arith) (λ z. omega arith))
        (read_keeps_field m (pending_field j) (omega arith) (λ z. omega arith) (λ z. omega arith)))
        (λ h known.
        quiet_line w (read_table w n k) s h known (read_line own h known)
        (read_keeps_field 0 highest_field (omega arith) (λ z. omega arith) (λ z. omega arith))
        (λ m. read_keeps_field m parent_field (omega arith) (λ z. omega arith) (λ z. omega arith)) state_kept)
