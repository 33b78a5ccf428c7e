-- Those who leave a queue keep what is remembered, and the records of those of them who commit join it. Each record may be read
-- from any later table: who has committed keeps its row. Assumes nothing.
use Prim.Native.Nat.{ℕ}
use native.Mathlib.Omega.{arith}
use mathlib.Core.Path.{◌≡◌, refl}
use mathlib.Core.Bool.{Bool, true, false}
use mathlib.Core.List.{List, [], ◌∷◌, ◌++◌}
use Rattle.rules.specs.Kind.{IsKind, top_kind, sub_kind}
use Rattle.rules.specs.Table.{parent_of, kind_of}
use Rattle.rules.specs.Queue.{is_head_ready, with_ready, without_below}
use Rattle.rules.specs.Ledger.{Ledger, with_table}
use Rattle.rules.specs.Step.{taken_out, finished, committing, leave, leave_both, revealed, out_of_both, dropped, head_in, head_out, is_head_outside}
use Rattle.rules.specs.History.{History, with_record, with_records}
use Rattle.rules.proofs.Laws.Kinds.{kind_known}
use Rattle.rules.proofs.Laws.Permitted.{Committable, Judgeable}
use Rattle.rules.proofs.Sound.QueueChanges.{ready_change, without_change, out_committable}
use Rattle.rules.proofs.Sound.Leaving.{head_committable}
use Rattle.rules.proofs.Demand.Proper.{Proper, left_proper, out_proper, head_out_proper, leave_by_proper_heads, leave_proper}
use Rattle.rules.proofs.Demand.Views.{RecordsKept, change_records, records_same, records_twice, change_keeps_proper}
use Rattle.rules.proofs.Demand.CommitTable.{now_committed, table_change}
use Rattle.rules.proofs.Demand.LeaversKept.{spared}
use Rattle.rules.proofs.History.Remembered.{Remembers}
use Rattle.rules.proofs.History.Calm.{queue_remembers, abort_remembers, fail_remembers}
use Rattle.rules.proofs.History.Committing.{commit_remembers}
use Rattle.rules.proofs.Sound.Judging.{fail_change}

-- ---- out of a queue

module _ {s : Ledger} (proper : Proper s) (h : ℕ) (known : IsKind h) (n : ℕ) where
  out_remembers : {had : History} → Remembers s had → Remembers (taken_out s h n) had
  unfolding without_below
  out_remembers remembers = queue_remembers proper remembers h known _ (without_change proper.sound h known n n)

  out_records : RecordsKept s.table (without_below s.table h n)
  out_records = change_records (without_change proper.sound h known n n)

-- ---- those who leave

-- from ledger s those leave of whom these commit, in this order, and ledger t is left
pub record RemembersAsLeft (s t : Ledger) (commits : List ℕ) : Type 0 where
  pub records : RecordsKept s.table t.table
  pub remembers :
      (v : List ℕ) → RecordsKept t.table v → (had : History) → Remembers s had → Remembers t (with_records v commits had)

nobody_leaves : (s : Ledger) → RemembersAsLeft s s []
unfolding with_records
nobody_leaves s = record { records = records_same s.table; remembers = λ v kept had was. was }

module _ (h : ℕ) (known : IsKind h) (s : Ledger) (proper : Proper s) (ready : is_head_ready s.table h ≡ true) where
  -- the head, and the ledger when it has been taken out
  abbrev n : ℕ
  n = head_in h s

  abbrev u : Ledger
  u = head_out h s

  without_head : Proper u
  without_head = head_out_proper h known s proper ready

  free : Committable u.table n
  free = head_committable h known s proper.sound ready

  -- it fails or commits, and then the others leave
  head_by_sums :
      (b : Bool) {t : Ledger} {commits : List ℕ} → RemembersAsLeft (finished u n b) t commits →
      RemembersAsLeft s t (committing n b ++ commits)
  unfolding finished with_records
  head_by_sums true later =
      record {
        records =
            records_twice (records_twice (out_records proper h known n) (change_records (fail_change u.table without_head.sound n free))) later.records;
        remembers = λ v kept had was.
            later.remembers v kept had (fail_remembers without_head (out_remembers proper h known n was) n free);
      }
  head_by_sums false later =
      record {
        records =
            records_twice (records_twice (out_records proper h known n) (change_records (table_change without_head free refl))) later.records;
        remembers = λ v kept had was.
            let row = (records_twice later.records kept).rows n (rw (table_change without_head free refl).same_highest free.own)
            (now_committed without_head free refl) in
            later.remembers v kept (with_record v n had)
            (commit_remembers without_head free refl (out_remembers proper h known n was) v row);
      }

pub leave_remembers :
    (h : ℕ) → IsKind h → (s : Ledger) → Proper s → RemembersAsLeft s (leave h s).after (leave h s).commits
leave_remembers h known =
    leave_by_proper_heads h known (λ s left. RemembersAsLeft s left.after left.commits) (λ s proper. nobody_leaves s)
    (λ s proper ready rest later. head_by_sums h known s proper ready (is_head_outside h s) later)

-- the records of two lists, one after the other, are those of both together
records_in_turn :
    (v : List ℕ) (first then : List ℕ) (had : History) →
    with_records v (first ++ then) had ≡ with_records v then (with_records v first had)
unfolding with_records
records_in_turn v [] then had = refl
records_in_turn v (n ∷ first) then had = records_in_turn v first then (with_record v n had)

pub both_leave_remembers : (s : Ledger) → Proper s → RemembersAsLeft s (leave_both s).after (leave_both s).commits
unfolding leave_both
both_leave_remembers s proper =
    let tops = leave top_kind s in
    let one = leave_remembers top_kind (omega arith) s proper in
    let two = leave_remembers sub_kind (omega arith) tops.after (leave_proper top_kind (omega arith) s proper) in
    record {
      records = records_twice one.records two.records;
      remembers = λ v kept had was.
          rw (records_in_turn v tops.commits (leave sub_kind tops.after).commits had)
          (two.remembers v kept _ (one.remembers v (records_twice two.records kept) had was));
    }

-- ---- before the head of a queue is tried

module _ {s : Ledger} (proper : Proper s) (n : ℕ) {had : History} (remembers : Remembers s had) where
  -- a verdict is revealed
  pub revealed_remembers : Judgeable s.table n → (b : Bool) → Remembers (revealed s n b) had
  unfolding revealed with_ready
  revealed_remembers may true =
      let known = kind_known (parent_of s.table n) in
      fail_remembers (left_proper proper n) (out_remembers proper (kind_of s.table n) known n remembers) n
      (out_committable proper.sound (kind_of s.table n) known n may.queued)
  revealed_remembers may false =
      let known = kind_known (parent_of s.table n) in
      queue_remembers proper remembers (kind_of s.table n) known _
      (ready_change proper.sound (kind_of s.table n) known n n)

  both_out_remembers : Remembers (with_table s (out_of_both s.table n)) had
  unfolding out_of_both
  both_out_remembers =
      let half = change_keeps_proper proper (without_change proper.sound top_kind (omega arith) n n) in
      out_remembers half sub_kind (omega arith) n (out_remembers proper top_kind (omega arith) n remembers)

  -- those are dropped whom an abort reaches
  pub dropped_remembers : Remembers (dropped s n) had
  unfolding dropped
  dropped_remembers = abort_remembers (out_proper proper n) both_out_remembers n (spared proper n)
