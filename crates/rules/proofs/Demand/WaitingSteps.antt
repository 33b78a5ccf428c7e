-- What holds of those who wait stays so, step by step, as long as nobody commits; and it holds when one more has entered.
-- Assumes nothing.
use Prim.Native.Nat.{ℕ, ◌≤◌}
use native.Mathlib.Omega.{arith}
use mathlib.Core.Path.{◌≡◌, refl, sym, ◌∙◌}
use mathlib.Core.Logic.{inl, ◌≢◌}
use mathlib.Core.Bool.{true, false}
use mathlib.Core.List.{List, [], ◌∷◌}
use lib.Dec.{eqb}
use borrow.Author.Tests.{eqb-true, eq-eqb}
use Rattle.rules.specs.Range.{any}
use Rattle.rules.specs.Kind.{IsKind}
use Rattle.rules.specs.Table.{committed, aborted, highest, parent_field, state_field, state_of, with_state, is_live, is_committed}
use Rattle.rules.specs.Walk.{is_aborted_by}
use Rattle.rules.specs.Queue.{Entry, is_of, queue, is_queued, is_waiting}
use Rattle.rules.specs.Sound.{IsGiven}
use Rattle.rules.specs.Ledger.{Ledger, with_table}
use Rattle.rules.specs.Free.{next_number}
use Rattle.rules.specs.Step.{give_table, start, read_table, read, abort_table, failed_ledger}
use Rattle.rules.specs.Serial.Effect.{Effect}
use Rattle.rules.proofs.Laws.Tests.{and_left, or_inl, or_inr, not_both, false_of_not_true}
use Rattle.rules.proofs.Laws.Words.{word_same, word_other_row}
use Rattle.rules.proofs.Laws.Kinds.{unqueued_in}
use Rattle.rules.proofs.Laws.Queue.{SameLine, queue_kept}
use Rattle.rules.proofs.Laws.Each.{Each}
use Rattle.rules.proofs.Laws.Freeing.{Givable}
use Rattle.rules.proofs.Laws.Permitted.{Startable, Touchable, Committable}
use Rattle.rules.proofs.Sound.TableChanges.{live_uncommitted, action_width, RowKept}
use Rattle.rules.proofs.Sound.Giving.{give_line}
use Rattle.rules.proofs.Sound.Started.{live_row}
use Rattle.rules.proofs.Sound.Reading.{read_keeps_field, read_keeps_row, read_line, read_change}
use Rattle.rules.proofs.Sound.Judging.{fail_line, fail_change}
use Rattle.rules.proofs.Sound.Aborting.{Spared, abort_keeps_row, abort_keeps_committed, abort_line, abort_change}
use Rattle.rules.proofs.Demand.Proper.{Proper}
use Rattle.rules.proofs.Demand.Starts.{start_givable}
use Rattle.rules.proofs.Demand.Entering.{Entering}
use Rattle.rules.proofs.Demand.Waiting.{Waits, LeftAlone, waits_alone, NoneCommits, none_no_new, row_alone}
use Rattle.rules.proofs.Sound.StartRecords.{record_was_there}
use Rattle.rules.proofs.Laws.Walking.{parent_store_or_live}

-- of all who wait, queue by queue
abbrev pub Waiting : Ledger → Type 0
Waiting s = (h : ℕ) → IsKind h → Waits s (queue s.table h)

-- what holds of each number that is listed holds of each entry
pub each_listed : (P : Entry → Type 0) (es : List Entry) → ((e : Entry) → any (is_of e.number) es ≡ true → P e) → Each P es
unfolding Each any
each_listed P [] every = tt
each_listed P (e ∷ es) every =
    (every e (or_inl _ (eq-eqb e.number e.number refl)), each_listed P es (λ d listed. every d (or_inr (eqb d.number e.number) listed)))

-- ---- a step that keeps both queues

-- whoever waits keeps its row
abbrev pub RowsKept : List ℕ → List ℕ → Type 0
RowsKept w v = (h : ℕ) → IsKind h → (X : ℕ) → is_queued w h X ≡ true → RowKept w v X

-- a queue of which nobody leaves, at a step at which nobody commits
pub queue_waits :
    (s t : Ledger) (h : ℕ) → NoneCommits s.table t.table →
    ((X : ℕ) → is_queued s.table h X ≡ true → RowKept s.table t.table X) →
    Waits s (queue s.table h) → Waits t (queue s.table h)
unfolding is_queued
queue_waits s t h none rows =
    waits_alone s t (queue s.table h)
    (each_listed (LeftAlone s t) (queue s.table h) (λ e listed. row_alone s t e (rows e.number listed) (none_no_new s.table t.table none _)))

pub waiting_kept :
    (s t : Ledger) → ((h : ℕ) → IsKind h → SameLine s.table t.table h) → NoneCommits s.table t.table →
    RowsKept s.table t.table → Waiting s → Waiting t
waiting_kept s t same none rows waits h known =
    rw (queue_kept s.table t.table h known (same h known)) (queue_waits s t h none (rows h known) (waits h known))

-- where n hasn't committed in v, and all others keep their words, nobody commits
others_kept :
    (w v : List ℕ) (n : ℕ) → highest v ≡ highest w → (is_committed v n ≡ true → ⊥) → ((m : ℕ) → 1 ≤ m → m ≢ n → RowKept w v m) →
    NoneCommits w v
others_kept w v n same unfinished rows m begun done =
    (rw same at begun, rows m begun.0 (λ it. unfinished (rw it at done)))

module _ (s : Ledger) (proper : Proper s) where
  abbrev w : List ℕ
  w = s.table

  -- nor is one who waits
  waiting_other : {n : ℕ} → is_waiting w n ≡ false → (h : ℕ) → IsKind h → (X : ℕ) → is_queued w h X ≡ true → X ≢ n
  waiting_other {n} unqueued h known X queued same = not_both queued (rw same (unqueued_in w n unqueued h known))

  waiting_given : (h : ℕ) → IsKind h → (X : ℕ) → is_queued w h X ≡ true → IsGiven w X
  waiting_given h known X queued = ((proper.sound.lines h known).waits X queued).begun

  -- a start
  module _ (p : ℕ) (permitted : Startable w p) where
    abbrev next : ℕ
    next = next_number w

    abbrev begun : List ℕ
    begun = give_table w next p

    givable : Givable w next
    givable = start_givable proper permitted

    -- who waits is live and keeps its row; a record of its parent was one before
    waiter_alone : (h : ℕ) → IsKind h → (e : Entry) → is_queued w h e.number ≡ true → LeftAlone s (with_table s begun) e
    waiter_alone h known e queued =
        let may = (proper.sound.lines h known).waits e.number queued in
        let row : RowKept w begun e.number =
        λ g inside. live_row w next p proper.sound givable e.number g may.begun may.alive (action_width g inside) in
        let held = parent_store_or_live proper.sound e.number may.begun may.alive in
        row_alone s (with_table s begun) e row
        (λ m given is.
        record_was_there w next p proper.sound givable held given (rw (row parent_field (inl (omega arith))) at is))

    pub waits_start : Waiting s → Waiting (start s p).after
    unfolding start is_queued
    waits_start waits h known =
        rw (queue_kept w begun h known (give_line w next p h givable.first known))
        (waits_alone s (with_table s begun) (queue w h)
        (each_listed (LeftAlone s (with_table s begun)) (queue w h) (λ e listed. waiter_alone h known e listed)) (waits h known))

  -- a read
  module _ (n k : ℕ) (permitted : Touchable w n k) where
    read_row : (m : ℕ) → 1 ≤ m → m ≢ n → RowKept w (read_table w n k) m
    read_row m _ other g inside = read_keeps_row w n k permitted.account m g (action_width g inside) other

    reader_live : is_live (read_table w n k) n ≡ true
    reader_live =
        rw (read_keeps_field w n k permitted.account n state_field (omega arith) (λ z. omega arith) (λ z. omega arith))
        permitted.alive

    pub waits_read : Waiting s → Waiting (read s n k).after
    unfolding read
    waits_read =
        let change = read_change w n k permitted.account proper.sound permitted.own permitted.alive in
        waiting_kept s (with_table s (read_table w n k)) (read_line w n k permitted.account proper.sound permitted.own)
        (others_kept w (read_table w n k) n change.same_highest (live_uncommitted (read_table w n k) n reader_live) read_row)
        (λ h known X queued. read_row X (waiting_given h known X queued).0 (waiting_other permitted.unqueued h known X queued))

  -- a write or an add
  pub waits_entering :
      (n k : ℕ) → Touchable w n k → (t : Ledger) (f : Effect) → Entering s t n k f → Waiting s → Waiting t
  waits_entering n k permitted t f enters =
      let still_live : is_live t.table n ≡ true = rw (enters.fields n state_field (omega arith)) permitted.alive in
      waiting_kept s t enters.same_line
      (others_kept w t.table n enters.change.same_highest (live_uncommitted t.table n still_live) (λ m _. enters.rows m))
      (λ h known X queued. enters.rows X (waiting_other permitted.unqueued h known X queued))

  -- an action that doesn't wait fails
  module _ (n : ℕ) (free : Committable w n) where
    fail_row : (m : ℕ) → 1 ≤ m → m ≢ n → RowKept w (with_state w n aborted) m
    fail_row m _ other g inside = word_other_row w n m state_field g aborted (omega arith) (action_width g inside) other

    failed_uncommitted : is_committed (with_state w n aborted) n ≡ true → ⊥
    failed_uncommitted done =
        let failed : state_of (with_state w n aborted) n ≡ aborted =
        word_same w n state_field aborted proper.sound.long (omega (arith, free.own, proper.sound.few)) (omega arith) in
        omega (arith, eqb-true (state_of (with_state w n aborted) n) committed done)

    pub waits_fail : Waiting s → Waiting (failed_ledger s n)
    waits_fail =
        waiting_kept s (failed_ledger s n) (fail_line w proper.sound n free)
        (others_kept w (with_state w n aborted) n (fail_change w proper.sound n free).same_highest failed_uncommitted fail_row)
        (λ h known X queued. fail_row X (waiting_given h known X queued).0 (waiting_other free.unqueued h known X queued))

  -- an abort that reaches nobody who waits
  module _ (n : ℕ) (spared : Spared w n proper.sound) where
    unreached_row : (m : ℕ) → is_aborted_by w n m ≡ false → RowKept w (abort_table w n) m
    unreached_row m out g inside = abort_keeps_row w n m g (action_width g inside) (λ _ reached. not_both reached out)

    -- whom it reaches hasn't committed
    committed_unreached : (m : ℕ) → IsGiven w m → is_committed (abort_table w n) m ≡ true → is_aborted_by w n m ≡ false
    committed_unreached m begun done =
        false_of_not_true _
        (λ reached.
        live_uncommitted w m (and_left (is_live w m) _ reached) (sym (abort_keeps_committed w n proper.sound m begun) ∙ done))

    abort_none_commits : NoneCommits w (abort_table w n)
    abort_none_commits m begun done =
        let was : IsGiven w m = rw (abort_change w n proper.sound spared).same_highest at begun in
        (was, unreached_row m (committed_unreached m was done))

    pub waits_abort : Waiting s → Waiting (with_table s (abort_table w n))
    waits_abort =
        waiting_kept s (with_table s (abort_table w n)) (abort_line w n proper.sound) abort_none_commits
        (λ h known X queued. unreached_row X (spared h known X queued))
