-- What a commit leaves of what holds of those who wait. It leaves alone everyone in the queue of the other kind, who has another
-- parent. A head that leaves ready passes, and when it has committed what holds of those behind it still holds. Assumes nothing.
use Prim.Native.Nat.{ℕ, ◌<◌}
use native.Mathlib.Omega.{arith}
use native.Mathlib.Decide.{ℕ_discrete}
use mathlib.Core.Path.{◌≡◌, refl, sym, ap, ◌∙◌}
use mathlib.Core.Logic.{inl, inr, ◌≢◌}
use mathlib.Core.Bool.{true, false}
use mathlib.Core.List.{List, ◌∷◌}
use lib.Dec.{ltb}
use borrow.Author.Tests.{eqb-true}
use Rattle.rules.specs.Range.{up_from}
use Rattle.rules.specs.Card.{account_count}
use Rattle.rules.specs.Kind.{IsKind, kind_under}
use Rattle.rules.specs.Table.{parent_field, parent_of, kind_of, state_field, read_field, has_read, sub_time_field, write_field, has_written, is_committed, is_child_of, is_record_of}
use Rattle.rules.specs.Queue.{queue_length, Entry, has_failed, entry_at, is_ready, is_head_ready, queue, is_queued}
use Rattle.rules.specs.Sound.{IsGiven}
use Rattle.rules.specs.Ledger.{Ledger}
use Rattle.rules.specs.Commit.{committed_under}
use Rattle.rules.specs.Step.{head_in, head_out}
use Rattle.rules.proofs.Laws.Tests.{and_left, and_right}
use Rattle.rules.proofs.Laws.Queue.{queue_kept}
use Rattle.rules.proofs.Laws.Each.{each_both}
use Rattle.rules.proofs.Laws.Permitted.{Committable}
use Rattle.rules.proofs.Sound.Committing.{commit_line, commit_parent, commit_keeps_row, commit_keeps_sets}
use Rattle.rules.proofs.Sound.QueueChanges.{without_keeps}
use Rattle.rules.proofs.Sound.Leaving.{ready_head, head_queued, taken_head, head_committable}
use Rattle.rules.proofs.Sound.Waiting.{commit_keeps_waiting}
use Rattle.rules.proofs.Serial.Stale.{Passes}
use Rattle.rules.proofs.Demand.Abstraction.{abstraction, Stale}
use Rattle.rules.proofs.Demand.Proper.{Proper}
use Rattle.rules.proofs.Demand.AbstractionLaws.{read_account, read_entered, account_read}
use Rattle.rules.proofs.Demand.Views.{same_no_later, stale_by_kept_row}
use Rattle.rules.proofs.Sound.NewestKept.{record_committed}
use Rattle.rules.proofs.Sound.TableChanges.{RowKept}
use Rattle.rules.proofs.Demand.CommitTable.{table_change, parent_other}
use Rattle.rules.proofs.Demand.Waiting.{Behind, Waits, LeftAlone, waits_alone}
use Rattle.rules.proofs.Demand.WaitingSteps.{Waiting, each_listed}
use Rattle.rules.proofs.Demand.WaitingQueue.{waits_after_out, waits_out}

-- ---- a commit leaves alone whoever waits and has read nothing of it

module _ {s : Ledger} (proper : Proper s) {n : ℕ} (free : Committable s.table n) where
  abbrev p : ℕ
  p = parent_of s.table n

  abbrev after : Ledger
  after = committed_under s n p

  abbrev table' : List ℕ
  table' = (committed_under s n p).table

  module _ (x : ℕ) (is : IsKind x) (e : Entry) (queued : is_queued s.table x e.number ≡ true) where
    row : RowKept s.table table' e.number
    row = commit_keeps_waiting s proper.sound free x is e.number queued

    abbrev X : ℕ
    X = e.number

    abbrev Q : ℕ
    Q = parent_of s.table X

    -- what makes a read of X stale afterwards did so before, where it isn't n
    stale_by_other : {k : ℕ} → k < account_count → (st : Stale after X Q k) → st.holder ≢ n → Stale s X Q k
    stale_by_other {k} account st other =
        let m = st.holder in
        let begun : IsGiven s.table m = rw (table_change proper free refl).same_highest at st.begun in
        let done : is_committed s.table m ≡ true =
        rw (commit_keeps_row s n p free.own.0 m state_field (omega arith) begun.0 other (inr (omega arith)))
        at (record_committed table' Q m st.is_record) in
        stale_by_kept_row after s account st begun (λ g field. sym ((table_change proper free refl).finals m begun done g field))
        (same_no_later table' s.table X k (sym (row (read_field k) (inl (omega arith))))
        (sym (row (sub_time_field k) (inr (omega arith, omega arith)))))

    -- where it is n, X is a sibling of n and has read what n has written
    sibling_of : {k : ℕ} → (st : Stale after X Q k) → st.holder ≡ n → Q ≡ parent_of s.table n
    unfolding is_record_of
    sibling_of st same =
        sym (eqb-true _ _ (and_left (is_child_of table' Q n) _ (rw same at st.is_record))) ∙ commit_parent s n p free.own.0 n

    written_by : {k : ℕ} → k < account_count → (st : Stale after X Q k) → st.holder ≡ n → has_written s.table n k ≡ true
    written_by {k} account st same =
        rw (commit_keeps_sets s n p free.own.0 (λ z. parent_other proper free refl (sym z)) (write_field k) (omega arith) (omega arith))
        at (rw same at st.written)

    pub commit_alone :
        (has_failed e ≡ false → Q ≡ parent_of s.table n → (k : ℕ) → k < account_count → has_written s.table n k ≡ true →
        has_read s.table X k ≡ true → ⊥) →
        LeftAlone s (committed_under s n (parent_of s.table n)) e
    commit_alone apart =
        record {
          parent = row parent_field (inl (omega arith));
          reads = λ k account has. rw (row (read_field k) (inl (omega arith))) at has;
          writes = λ k account written. rw (row (write_field k) (inl (omega arith))) at written;
          passes = λ fine passes k has st.
              let account = read_account table' X k has in
              let was = rw (row (read_field k) (inl (omega arith))) at (read_entered table' X k has) in
              let here : Stale after X Q k = rw (row parent_field (inl (omega arith))) at st in
              by_holder fine passes k account was here (ℕ_discrete here.holder n);
        }
      where
        by_holder :
            has_failed e ≡ false → Passes (abstraction s) (Stale s) X → (k : ℕ) → k < account_count → has_read s.table X k ≡ true →
            (st : Stale after X Q k) → Dec (st.holder ≡ n) → ⊥
        by_holder fine passes k account has st (yes same) =
            apart fine (sibling_of st same) k account (written_by account st same) has
        by_holder fine passes k account has st (no other) =
            passes k (account_read s.table X k account has) (stale_by_other account st other)

  -- ---- the queue of the other kind

  module _ (x : ℕ) (is : IsKind x) where
    -- whoever waits there has another parent
    no_sibling : x ≢ kind_of s.table n → (X : ℕ) → is_queued s.table x X ≡ true → parent_of s.table X ≢ p
    no_sibling apart X queued same = apart (sym ((proper.sound.lines x is).waits X queued).kind ∙ ap kind_under same)

    same_queue : queue table' x ≡ queue s.table x
    same_queue = queue_kept s.table table' x is (commit_line s n p free.own.0 x is)

    pub waits_beside :
        x ≢ kind_of s.table n → Waits s (queue s.table x) →
        Waits (committed_under s n (parent_of s.table n)) (queue (committed_under s n (parent_of s.table n)).table x)
    unfolding is_queued
    waits_beside apart waits =
        rw same_queue
        (waits_alone s after (queue s.table x)
        (each_listed (LeftAlone s after) (queue s.table x)
        (λ e listed. commit_alone x is e listed (λ _ siblings _ _ _ _. no_sibling apart e.number listed siblings)))
        waits)

    -- and an empty queue stays empty
    still_empty : queue_length s.table x ≡ 0 → Waits after (queue table' x)
    unfolding queue up_from Waits
    still_empty empty = rw ((commit_line s n p free.own.0 x is).same_length, empty) tt

  -- ---- a commit event: the queue of its kind is empty

  pub waits_commit :
      queue_length s.table (kind_of s.table n) ≡ 0 → Waiting s → Waiting (committed_under s n (parent_of s.table n))
  waits_commit empty waits x is = go (ℕ_discrete x (kind_of s.table n))
    where
      go : Dec (x ≡ kind_of s.table n) → Waits after (queue table' x)
      go (yes same) = still_empty x is (rw same empty)
      go (no apart) = waits_beside x is apart (waits x is)

-- ---- the head

module _
    (h : ℕ) (known : IsKind h) (s : Ledger) (proper : Proper s) (ready : is_head_ready s.table h ≡ true) (waits : Waiting s) where
  abbrev head : Entry
  head = entry_at s.table h 1

  behind : List Entry
  behind = (ready_head s.table h ready).0

  stands : queue s.table h ≡ head ∷ behind
  unfolding behind
  stands = (ready_head s.table h ready).1

  -- when the head has been taken out the others are those behind it
  left_behind : queue (head_out h s).table h ≡ behind
  unfolding entry_at
  left_behind = taken_head h known proper.sound head behind stands

  -- and all of it still holds, of the head too
  still_waits : Waits (head_out h s) (head ∷ behind)
  still_waits = rw stands at (waits_after_out s proper h known (head_in h s) waits)

  head_ready : is_ready head ≡ true
  unfolding is_head_ready
  head_ready = and_right (ltb 0 (queue_length s.table h)) (is_ready head) ready

  pub head_passes : Passes (abstraction (head_out h s)) (Stale (head_out h s)) (head_in h s)
  unfolding Waits entry_at
  head_passes = let here = still_waits.0 in here.passes (here.earned head_ready)

  -- the ledger when it has been taken out, and when it has committed
  abbrev u : Ledger
  u = head_out h s

  abbrev v : Ledger
  v = committed_under u (head_in h s) (parent_of u.table (head_in h s))

  free : Committable u.table (head_in h s)
  free = head_committable h known s proper.sound ready

  head_kind : kind_of u.table (head_in h s) ≡ h
  head_kind =
      let queued = head_queued s.table h ready in
      ap kind_under
      (without_keeps proper.sound h known (head_in h s) (head_in h s) parent_field (inl (omega arith)) (inr (λ z. omega arith)))
      ∙ ((proper.sound.lines h known).waits (head_in h s) queued).kind

  module _ (proper' : Proper (head_out h s)) where
    -- those behind it have read nothing that it has written, or have failed
    behind_waits : Waits v (queue v.table h)
    unfolding Waits is_queued entry_at
    behind_waits =
        rw (queue_kept u.table v.table h known (commit_line u (head_in h s) _ free.own.0 h known), left_behind)
        (waits_alone u v behind
        (each_both (Behind u head) (λ e. is_queued u.table h e.number ≡ true) (LeftAlone u v)
        (λ e apart queued. commit_alone proper' free h known e queued apart) behind still_waits.1
        (each_listed (λ e. is_queued u.table h e.number ≡ true) behind (λ e listed. rw left_behind listed)))
        still_waits.2)

    pub waits_head_committed : Waiting (committed_under (head_out h s) (head_in h s) (parent_of (head_out h s).table (head_in h s)))
    waits_head_committed x is = go (ℕ_discrete x h)
      where
        go : Dec (x ≡ h) → Waits v (queue v.table x)
        go (yes same) = rw same behind_waits
        go (no apart) =
            waits_beside proper' free x is (λ z. apart (z ∙ head_kind)) (waits_out s proper h known (head_in h s) waits x is)
