-- A commit that is not refused, passed or failed, keeps a sound table sound. Assumes nothing.
use Prim.Native.Nat.{ℕ, suc, ◌+◌, ◌≤◌, ◌<◌, min}
use native.Mathlib.Omega.{arith}
use native.Mathlib.Decide.{ℕ_discrete}
use native.Mathlib.Nat.{le_of_eq}
use mathlib.Core.Path.{◌≡◌, refl, sym, ap, ◌∙◌}
use mathlib.Core.Logic.{◌⊎◌, inl, inr, ⊎_elim, ◌≢◌}
use mathlib.Core.Bool.{Bool, true, false, not, cond}
use mathlib.Core.List.{List}
use borrow.Author.Tests.{eqb-true, leb-true, leb-false, eq-eqb}
use lib.Dec.{eqb, leb}
use Rattle.rules.specs.Card.{account_count, IsCharge, accounts}
use Rattle.rules.specs.Kind.{IsKind}
use Rattle.rules.specs.Table.{has_end, width, most_actions, live, committed, aborted, word, highest_field, highest, counter_field, counter, last_time, parent_field, parent_of, kind_of, state_field, state_of, with_state, end_field, end_time, read_field, read_entry, has_read, sub_time_field, read_time, write_field, write_entry, entered, has_written, has_writes, pending_field, pending_word, is_live, is_committed, is_record_of, newest, newest_field, rule_field}
use Rattle.rules.specs.Queue.{queue_length_field, queue_length, is_queued}
use Rattle.rules.specs.Sound.{has_state, IsGiven, Sound}
use Rattle.rules.specs.Ledger.{Ledger}
use Rattle.rules.specs.Commit.{commit_time, commit_counter, passes_read, joined_word, joined_read, committed_under}
use Rattle.rules.proofs.Laws.Tests.{and_left, and_right, and_both, test, not_both, false_of_not_true}
use Rattle.rules.proofs.Laws.Permitted.{Committable, no_live_child, not_own_parent}
use Rattle.rules.proofs.Laws.Words.{with_word_length, word_same, word_other_row, word_off_field}
use Rattle.rules.proofs.Laws.Ranges.{any_at}
use Rattle.rules.proofs.Laws.Kinds.{unqueued_in}
use Rattle.rules.proofs.Laws.Queue.{SameLine}
use Rattle.rules.proofs.Copies.Turns.{added_word}
use Rattle.rules.proofs.Sound.TableChanges.{ReadsFrom, Bounded, bounds_stay, TableChange, Ended, SumStays, sum_stays, line_stays, writes_agree, live_uncommitted, same_read, RowKept, calm_newest, ReadFrom, NewestStays, action_width, child's, NewestNow, own}
use Rattle.rules.proofs.Sound.Committing.{commit_length, commit_highest, commit_parent, commit_keeps_row, commit_keeps_sets, commit_keeps_others, commit_line, counter_of_commit, commit_other_counter, commit_state, commit_end, commit_read, commit_read_time, commit_write, commit_pending, commit_noted, commit_unnoted, commit_rule}
use Rattle.rules.proofs.Clash.Records.{record_parent}
use Rattle.rules.proofs.Sound.NewestKept.{record_committed}

-- ---- one action finishes: what its state alone gives of a change

module _ (w v : List ℕ) (n : ℕ) (j : Committable w n)
    (finished : (state_of v n ≡ committed) ⊎ (state_of v n ≡ aborted))
    (others : (m : ℕ) → 1 ≤ m → m ≢ n → state_of v m ≡ state_of w m) where
  finished_not_live : is_live v n ≡ true → ⊥
  finished_not_live l =
      ⊎_elim (λ c. omega (arith, eqb-true (state_of v n) live l)) (λ a. omega (arith, eqb-true (state_of v n) live l)) finished

  pub still_live_other : (m : ℕ) → is_live v m ≡ true → m ≢ n
  still_live_other m l e = finished_not_live (rw e at l)

  pub live_before : (m : ℕ) → IsGiven w m → is_live v m ≡ true → is_live w m ≡ true
  live_before m h l = rw (others m h.0 (still_live_other m l)) at l

  pub parent_does_stay :
      (m : ℕ) → IsGiven w m → is_live v m ≡ true → is_live w (parent_of w m) ≡ true → 1 ≤ parent_of w m → is_live v (parent_of w m) ≡ true
  parent_does_stay m h l q pos =
      rw (others (parent_of w m) pos (no_live_child w n j.childless m h (live_before m h l))) q

  pub has_state_still : Sound w → (m : ℕ) → IsGiven w m → has_state v m ≡ true
  has_state_still s m h = go (ℕ_discrete m n)
    where
      of_n : has_state v n ≡ true
      of_n = ⊎_elim (λ c. rw c refl) (λ a. rw a refl) finished

      go : Dec (m ≡ n) → has_state v m ≡ true
      go (yes e) = rw e of_n
      go (no ne) = rw (others m h.0 ne) (s.states m h)

  -- whoever waits is another, and stays live
  pub waiting_stays : Sound w → (h : ℕ) → IsKind h → (m : ℕ) → is_queued w h m ≡ true → is_live v m ≡ true
  waiting_stays s h known m queued =
      let may = (s.lines h known).waits m queued in
      rw (others m may.begun.0 (λ e. not_both queued (rw e (unqueued_in w n j.unqueued h known)))) may.alive

-- ---- a failed commit: the action becomes aborted, and nothing else changes

module _ (w : List ℕ) (s : Sound w) (n : ℕ) (j : Committable w n) where
  abbrev failed : List ℕ
  failed = with_state w n aborted

  fail_others : (m : ℕ) → 1 ≤ m → m ≢ n → state_of failed m ≡ state_of w m
  fail_others m pos ne = word_other_row w n m state_field state_field aborted (omega arith) (omega arith) ne

  fail_state : state_of failed n ≡ aborted
  fail_state = word_same w n state_field aborted s.long (omega (arith, j.own, s.few)) (omega arith)

  pub fail_keeps_field : (m g : ℕ) → g < width → g ≢ state_field → word failed m g ≡ word w m g
  fail_keeps_field m g h ne = word_off_field w n m state_field g aborted (omega arith) h ne

  fail_head : (g : ℕ) → g < width → word failed 0 g ≡ word w 0 g
  fail_head g h = word_other_row w n 0 state_field g aborted (omega arith) h (λ z. omega (arith, j.own))

  -- it was live, so it was not committed; now it is aborted
  fail_committed : (m : ℕ) → 1 ≤ m → is_committed failed m ≡ is_committed w m
  fail_committed m pos = go (ℕ_discrete m n)
    where
      go : Dec (m ≡ n) → is_committed failed m ≡ is_committed w m
      go (yes e) = rw e (rw fail_state (sym (false_of_not_true _ (live_uncommitted w n j.alive))))
      go (no ne) = ap (λ x. eqb x committed) (fail_others m pos ne)

  fail_end : (m : ℕ) → IsGiven w m → has_end failed m ≡ true → has_end w m ≡ true
  fail_end m h e =
      let did = rw (fail_committed m h.0) at (and_left (is_committed failed m) (has_writes failed m) e) in
      let other : m ≢ n = λ z. live_uncommitted w n j.alive (rw z at did) in
      and_both did
      (sym (writes_agree w failed m (λ k hk. word_other_row w n m state_field (write_field k) aborted (omega arith) (omega arith) other))
      ∙ and_right (is_committed failed m) (has_writes failed m) e)

  fail_counter : (h : ℕ) → IsKind h → counter failed h ≡ counter w h
  fail_counter h known = fail_head (counter_field h) (omega arith)

  fail_reads : ReadsFrom w failed
  fail_reads h m k known begun l hk =
      same_read w failed h m k (fail_keeps_field m (read_field k) (omega arith) (λ z. omega arith))
      (fail_keeps_field m (sub_time_field k) (omega arith) (λ z. omega arith))

  fail_ends : (m : ℕ) → IsGiven w m → has_end failed m ≡ true → Ended w failed n m
  fail_ends m h e = inl (fail_end m h e, fail_keeps_field m end_field (omega arith) (λ z. omega arith))

  -- the action that failed was live, not committed
  fail_finals : (m : ℕ) → is_committed w m ≡ true → RowKept w failed m
  fail_finals m did g inside =
      word_other_row w n m state_field g aborted (omega arith) (action_width g inside)
      (λ same. live_uncommitted w n j.alive (rw same at did))

  pub fail_line : (h : ℕ) → IsKind h → SameLine w (with_state w n aborted) h
  fail_line h known =
      record {
        same_length = fail_keeps_field 0 (queue_length_field h) (omega arith) (λ z. omega arith);
        same_entries = λ i g _ first last. fail_keeps_field i g (omega arith) (λ z. omega arith);
      }

  pub fail_change : TableChange w (with_state w n aborted) n
  fail_change =
      record {
        long = with_word_length w n state_field aborted ∙ s.long;
        same_highest = fail_head highest_field (omega arith);
        same_rule = ap (λ x. x + 1) (fail_head rule_field (omega arith));
        rising = λ h known. le_of_eq (sym (fail_counter h known));
        bounded = bounds_stay s failed fail_counter (λ h known. (fail_line h known).same_length);
        states = has_state_still w failed n j (inr fail_state) fail_others s;
        parents = λ m h. fail_keeps_field m parent_field (omega arith) (λ z. omega arith);
        was_live = live_before w failed n j (inr fail_state) fail_others;
        parent_stays = parent_does_stay w failed n j (inr fail_state) fail_others;
        reads = fail_reads;
        ends = fail_ends;
        finals = λ m h. fail_finals m;
        newests =
            λ p k known account.
            calm_newest fail_counter fail_ends p k (fail_keeps_field p (newest_field k) (omega arith) (λ z. omega arith));
        pendings =
            λ m k h charge.
            sum_stays w failed m k (fail_keeps_field m (write_field k) (omega arith) (λ z. omega arith))
            (fail_keeps_field m (pending_field k) (omega arith) (λ z. omega arith));
        lines =
            λ h known.
            line_stays w failed s h known (fail_line h known)
            (fail_head highest_field (omega arith))
            (λ m _. fail_keeps_field m parent_field (omega arith) (λ z. omega arith))
            (live_before w failed n j (inr fail_state) fail_others)
            (waiting_stays w failed n j (inr fail_state) fail_others s h known);
      }

-- ---- a commit that passes

module _ (ledger : Ledger) (s : Sound ledger.table) (n : ℕ) (j : Committable ledger.table n) where
  abbrev w : List ℕ
  w = ledger.table

  abbrev parent : ℕ
  parent = parent_of w n

  abbrev passed : List ℕ
  passed = (committed_under ledger n parent).table

  n_few : n ≤ most_actions
  n_few = omega (arith, j.own, s.few)

  parent_given : parent ≤ highest w
  parent_given = s.known n j.own

  -- a parent that is an action is a live one
  parent_live : 1 ≤ parent → is_live w parent ≡ true
  parent_live pos = ⊎_elim (λ z. absurd (omega arith)) (λ l. l) (s.alive n j.own j.alive)

  pass_state : state_of passed n ≡ committed
  pass_state = commit_state ledger n parent j.own.0 s.long n_few

  pass_others : (m : ℕ) → 1 ≤ m → m ≢ n → state_of passed m ≡ state_of w m
  pass_others m pos ne = commit_keeps_row ledger n parent j.own.0 m state_field (omega arith) pos ne (inr (omega arith))

  -- the kind of the action that commits
  abbrev kind : ℕ
  kind = kind_of w n

  pass_counter : counter passed kind ≡ commit_counter w n
  pass_counter = counter_of_commit ledger n parent j.own.0 s.long n_few

  pass_other_counter : (h : ℕ) → IsKind h → h ≢ kind → counter passed h ≡ counter w h
  pass_other_counter = commit_other_counter ledger n parent j.own.0 s.long n_few

  -- the counter of its kind goes up by one at the most
  counter_step : (counter w kind ≤ commit_counter w n) × (commit_counter w n ≤ suc (counter w kind))
  unfolding commit_counter
  counter_step =
      ⊎_elim (λ y. rw y (omega arith)) (λ x. rw x (omega arith)) (test (has_writes w n))

  pass_rising : (h : ℕ) → IsKind h → counter w h ≤ counter passed h
  pass_rising h known = go (ℕ_discrete h kind)
    where
      go : Dec (h ≡ kind) → counter w h ≤ counter passed h
      go (yes e) = rw (e, pass_counter) counter_step.0
      go (no apart) = le_of_eq (sym (pass_other_counter h known apart))

  pass_parent : (m : ℕ) → parent_of passed m ≡ parent_of w m
  pass_parent = commit_parent ledger n parent j.own.0

  parent_noted : (k : ℕ) → k < account_count → has_written w n k ≡ true → newest passed parent k ≡ commit_time w n
  parent_noted =
      commit_noted ledger n parent j.own.0 s.long n_few (omega (arith, parent_given, s.few)) (λ z. not_own_parent j (sym z))

  parent_unnoted : (k : ℕ) → k < account_count → has_written w n k ≡ false → newest passed parent k ≡ newest w parent k
  parent_unnoted =
      commit_unnoted ledger n parent j.own.0 s.long n_few (omega (arith, parent_given, s.few)) (λ z. not_own_parent j (sym z))

  -- there was time left for it
  pass_bounded : Bounded passed
  pass_bounded h known = rw (commit_line ledger n parent j.own.0 h known).same_length (go (ℕ_discrete h kind))
    where
      go : Dec (h ≡ kind) → counter passed h + queue_length w h ≤ last_time
      go (yes e) = rw (e, pass_counter) (omega (arith, counter_step.1, j.time_left))
      go (no apart) = rw (pass_other_counter h known apart) (s.bounded h known)

  -- the write set of the action that commits is as it was, so its end time is what the commit made it
  own_end : has_end passed n ≡ true → Ended w passed n n
  unfolding commit_time commit_counter
  own_end e = inr (refl, own_time ∙ rw wrote refl ∙ sym pass_counter, rw (pass_counter, wrote) (omega arith))
    where
      own_time : end_time passed n ≡ commit_time w n
      own_time = commit_end ledger n parent j.own.0 s.long n_few

      wrote : has_writes w n ≡ true
      wrote =
          sym (writes_agree w passed n (λ k hk. commit_keeps_sets ledger n parent j.own.0 (λ z. not_own_parent j (sym z)) (write_field k) (omega arith) (omega arith)))
          ∙ and_right (is_committed passed n) (has_writes passed n) e

  -- another action that has an end keeps its row: it is committed, and the parent is live
  other_end : (m : ℕ) → IsGiven w m → m ≢ n → has_end passed m ≡ true → Ended w passed n m
  other_end m h ne e =
      let did : is_committed w m ≡ true = rw (pass_others m h.0 ne) at (and_left (is_committed passed m) (has_writes passed m) e) in
      let apart : m ≢ parent = λ z. live_uncommitted w m (rw z (parent_live (rw z at h.0))) did in
      inl (
        and_both did
            (sym (writes_agree w passed m (λ k hk. commit_keeps_row ledger n parent j.own.0 m (write_field k) (omega arith) h.0 ne (inl apart)))
            ∙ and_right (is_committed passed m) (has_writes passed m) e),
        commit_keeps_row ledger n parent j.own.0 m end_field (omega arith) h.0 ne (inr (omega arith)),
      )

  pass_end : (m : ℕ) → IsGiven w m → has_end passed m ≡ true → Ended w passed n m
  pass_end m h e = go (ℕ_discrete m n)
    where
      go : Dec (m ≡ n) → Ended w passed n m
      go (yes z) = rw z (own_end (rw z at e))
      go (no ne) = other_end m h ne e

  -- a read of the parent's is the parent's or the child's: each time is one of the two that were there
  parent_from : (h k : ℕ) → 1 ≤ parent → k < account_count → has_read passed parent k ≡ true → ReadFrom w passed h parent k
  parent_from h k pos hk has = by_pass (passes_read w n parent k) refl (has_read w parent k) refl
    where
      few : parent ≤ most_actions
      few = omega (arith, parent_given, s.few)

      entry : read_entry passed parent k ≡ joined_read w n parent k
      entry = commit_read ledger n parent j.own.0 s.long n_few pos few k hk

      time : read_time passed h parent k ≡ joined_word w n parent k (read_time w h n k) (read_time w h parent k)
      time = commit_read_time ledger n parent j.own.0 s.long n_few pos few h k hk

      of_child : has_read w n k ≡ true → read_time passed h parent k ≡ read_time w h n k → ReadFrom w passed h parent k
      of_child = child's n (j.own, j.alive) refl

      by_pass :
          (passes : Bool) → passes_read w n parent k ≡ passes → (both : Bool) → has_read w parent k ≡ both →
          ReadFrom w passed h parent k
      by_pass true passes true read =
          let smaller : read_time passed h parent k ≡ min (read_time w h n k) (read_time w h parent k) = rw (passes, read) at time in
          ⊎_elim
          (λ less.
          of_child (and_left (has_read w n k) _ passes)
          (omega (arith, smaller, leb-true (read_time w h n k) (read_time w h parent k) less)))
          (λ more. own read (omega (arith, smaller, leb-false (read_time w h n k) (read_time w h parent k) more)))
          (test (leb (read_time w h n k) (read_time w h parent k)))
      by_pass true passes false unread = of_child (and_left (has_read w n k) _ passes) (rw (passes, unread) at time)
      by_pass false stays both is = own (rw (rw stays at entry) at has) (rw stays at time)

  pass_reads : ReadsFrom w passed
  pass_reads h m k known begun l hk has = go (ℕ_discrete m parent)
    where
      other : m ≢ n
      other = still_live_other w passed n j (inl pass_state) pass_others m l

      go : Dec (m ≡ parent) → ReadFrom w passed h m k
      go (yes z) = rw z (parent_from h k (rw z at begun.0) hk (rw z at has))
      go (no ne) =
          same_read w passed h m k
          (commit_keeps_row ledger n parent j.own.0 m (read_field k) (omega arith) begun.0 other (inl ne))
          (commit_keeps_row ledger n parent j.own.0 m (sub_time_field k) (omega arith) begun.0 other (inl ne))
          has

  -- a committed action isn't the one that commits, nor its parent, which is the store or live
  pass_finals : (m : ℕ) → IsGiven w m → is_committed w m ≡ true → RowKept w passed m
  pass_finals m begun did g inside =
      commit_keeps_row ledger n parent j.own.0 m g (action_width g inside) begun.0
      (λ same. live_uncommitted w n j.alive (rw same at did))
      (inl (λ same. live_uncommitted w m (rw same (parent_live (rw same at begun.0))) did))

  -- ---- the newest end times

  own_written : (k : ℕ) → k < account_count → has_written passed n k ≡ has_written w n k
  own_written k hk =
      ap (λ x. not (eqb x 0))
      (commit_keeps_sets ledger n parent j.own.0 (λ z. not_own_parent j (sym z)) (write_field k) (omega arith) (omega arith))

  -- any other record had committed
  old_record : (p m : ℕ) → IsGiven w m → is_record_of passed p m ≡ true → m ≢ n → is_committed w m ≡ true
  old_record p m begun is other = rw (pass_others m begun.0 other) at (record_committed passed p m is)

  -- where n has not written k, or isn't p's child, p's records with k are those that there were
  stays :
      (p k : ℕ) → newest passed p k ≡ newest w p k → (is_record_of passed p n ≡ true → has_written passed n k ≡ true → ⊥) →
      NewestStays w passed p k
  stays p k same none = (
    same,
    λ m begun is written.
        by_number m begun is written (ℕ_discrete m n),
  )
    where
      by_number :
          (m : ℕ) → IsGiven w m → is_record_of passed p m ≡ true → has_written passed m k ≡ true → Dec (m ≡ n) →
          is_committed w m ≡ true
      by_number m begun is written (yes e) = absurd (none (rw e at is) (rw e at written))
      by_number m begun is written (no other) = old_record p m begun is other

  -- .. and where it is and has, its end time is the newest
  noted_now : (k : ℕ) → k < account_count → has_written w n k ≡ true → NewestNow w passed parent k
  unfolding is_record_of commit_time commit_counter has_writes accounts
  noted_now k hk wrote =
      let writes : has_writes w n ≡ true = any_at (has_written w n) 0 account_count k (omega arith) wrote in
      let ended : end_time passed n ≡ commit_time w n = commit_end ledger n parent j.own.0 s.long n_few in
      record {
        holder = n;
        begun = j.own;
        is_record =
            and_both (eq-eqb _ _ (pass_parent n))
            (and_both (eq-eqb _ _ pass_state)
            (writes_agree w passed n (λ i hi. commit_keeps_sets ledger n parent j.own.0 (λ z. not_own_parent j (sym z)) (write_field i) (omega arith) (omega arith)) ∙ writes));
        written = own_written k hk ∙ wrote;
        noted = parent_noted k hk wrote ∙ sym ended;
        late = rw (ended, writes) (omega arith);
        in_time = rw (ended, pass_counter, writes) (omega arith);
      }

  pass_newests : (p k : ℕ) → p ≤ highest w → k < account_count → NewestStays w passed p k ⊎ NewestNow w passed p k
  pass_newests p k known hk = by_parent (ℕ_discrete p parent) (has_written w n k) refl
    where
      by_parent :
          Dec (p ≡ parent) → (b : Bool) → has_written w n k ≡ b → NewestStays w passed p k ⊎ NewestNow w passed p k
      by_parent (yes e) true wrote = inr (rw e (noted_now k hk wrote))
      by_parent (yes e) false none =
          inl
          (rw e
          (stays parent k (parent_unnoted k hk none) (λ _ written. not_both written (own_written k hk ∙ none))))
      by_parent (no other) b _ =
          inl
          (stays p k
          (commit_keeps_others ledger n parent j.own.0 p other (newest_field k) (omega arith) (omega arith))
          (λ is _. other (sym (record_parent passed p n is) ∙ pass_parent n)))

  -- an account that n has written enters the parent's write set; any other keeps its entry and its sum there
  parent_sums : 1 ≤ parent → (k : ℕ) → IsCharge k → SumStays w passed parent k
  parent_sums pos k charge = go (has_written w n k) refl
    where
      low : parent ≤ most_actions
      low = omega (arith, parent_given, s.few)

      entry : write_entry passed parent k ≡ cond (has_written w n k) entered (write_entry w parent k)
      entry = commit_write ledger n parent j.own.0 s.long n_few pos low k charge.1

      sum : pending_word passed parent k ≡ cond (has_written w n k) (added_word w n parent k) (pending_word w parent k)
      sum = commit_pending ledger n parent j.own.0 s.long n_few pos low (λ z. not_own_parent j (sym z)) k charge

      go : (b : Bool) → has_written w n k ≡ b → SumStays w passed parent k
      go true wrote = λ none. absurd (not_both (rw (entry, wrote) refl) none)
      go false wrote = sum_stays w passed parent k (entry ∙ rw wrote refl) (sum ∙ rw wrote refl)

  pass_sums : (m k : ℕ) → IsGiven w m → IsCharge k → SumStays w passed m k
  pass_sums m k h charge = go (ℕ_discrete m parent)
    where
      go : Dec (m ≡ parent) → SumStays w passed m k
      go (yes z) = rw z (parent_sums (rw z at h.0) k charge)
      go (no apart) =
          let kept = commit_keeps_others ledger n parent j.own.0 m apart in
          sum_stays w passed m k (kept (write_field k) (omega arith) (omega arith)) (kept (pending_field k) (omega arith) (omega arith))

  pub commit_change : TableChange ledger.table (committed_under ledger n (parent_of ledger.table n)).table n
  commit_change =
      record {
        long = commit_length ledger n parent j.own.0 ∙ s.long;
        same_highest = commit_highest ledger n parent j.own.0;
        same_rule = commit_rule ledger n parent j.own.0;
        rising = pass_rising;
        bounded = pass_bounded;
        states = has_state_still w passed n j (inl pass_state) pass_others s;
        parents = λ m _. pass_parent m;
        was_live = live_before w passed n j (inl pass_state) pass_others;
        parent_stays = parent_does_stay w passed n j (inl pass_state) pass_others;
        reads = pass_reads;
        ends = pass_end;
        finals = pass_finals;
        newests = pass_newests;
        pendings = pass_sums;
        lines =
            λ h known.
            line_stays w passed s h known (commit_line ledger n parent j.own.0 h known)
            (commit_highest ledger n parent j.own.0) (λ m _. pass_parent m)
            (live_before w passed n j (inl pass_state) pass_others)
            (waiting_stays w passed n j (inl pass_state) pass_others s h known);
      }
