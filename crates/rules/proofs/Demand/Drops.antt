-- The steps after which no more actions are live and nothing else has changed, as demand 3's proof sees them: an abort, a failed
-- commit, and a change of a queue. Assumes nothing.
use Prim.Native.Nat.{ℕ, ◌≤◌, ◌<◌}
use native.Mathlib.Omega.{arith}
use mathlib.Core.Path.{◌≡◌}
use mathlib.Core.Logic.{inl, inr, ◌≢◌}
use mathlib.Core.List.{List}
use Rattle.rules.specs.Kind.{IsKind}
use Rattle.rules.specs.Table.{width, aborted, word, parent_field, state_field, with_state, read_field, sub_time_field, write_field, pending_field}
use Rattle.rules.specs.Ledger.{Ledger, with_table}
use Rattle.rules.specs.Queue.{Entry, with_queue}
use Rattle.rules.specs.Step.{abort_table}
use Rattle.rules.proofs.Laws.Permitted.{Committable}
use Rattle.rules.proofs.Laws.Words.{word_off_field}
use Rattle.rules.proofs.Sound.TableChanges.{TableChange, RowKept}
use Rattle.rules.proofs.Sound.QueueChanges.{given_keeps}
use Rattle.rules.proofs.Sound.Judging.{fail_change}
use Rattle.rules.proofs.Sound.Aborting.{Spared, abort_keeps_field, abort_change}
use Rattle.rules.proofs.Serial.Events.{Drop}
use Rattle.rules.proofs.Serial.Stale.{Old}
use Rattle.rules.proofs.Demand.Abstraction.{abstraction, Stale}
use Rattle.rules.proofs.Demand.Proper.{Proper}
use Rattle.rules.proofs.Demand.AbstractionLaws.{alive_given}
use Rattle.rules.proofs.Demand.Views.{Keeps, keeps_still, keeps_old, was_alive, change_keeps_proper, change_records}

-- ---- a change of states alone, and of no committed action's

-- every word of the table but the states
abbrev StatesAlone : List ℕ → List ℕ → Type 0
StatesAlone w v = (m g : ℕ) → g < width → g ≢ state_field → word v m g ≡ word w m g

states_keep : {w v : List ℕ} → StatesAlone w v → Keeps w v
states_keep field_kept =
    record {
      parents = λ m l. field_kept m parent_field (omega arith) (λ z. omega arith);
      writes = λ m k l account. field_kept m (write_field k) (omega arith) (λ z. omega arith);
      sums = λ m k l charge. field_kept m (pending_field k) (omega arith) (λ z. omega arith);
      reads =
          λ m k l account has. (
            field_kept m (read_field k) (omega arith) (λ z. omega arith),
            field_kept m (sub_time_field k) (omega arith) (λ z. omega arith),
          );
    }

change_drops :
    {s : Ledger} {v : List ℕ} {now : ℕ} → Proper s → TableChange s.table v now → Keeps s.table v →
    Drop (abstraction s) (abstraction (with_table s v))
change_drops {s} {v} proper c kept =
    record { still = keeps_still s v kept proper (change_keeps_proper proper c); nobody_new = was_alive c }

-- ---- an abort

module _ (s : Ledger) (proper : Proper s) (n : ℕ) (spared : Spared s.table n proper.sound) where
  change : TableChange s.table (abort_table s.table n) n
  change = abort_change s.table n proper.sound spared

  abort_keeps : Keeps s.table (abort_table s.table n)
  abort_keeps = states_keep (abort_keeps_field s.table n)

  pub abort_drops : Drop (abstraction s) (abstraction (with_table s (abort_table s.table n)))
  abort_drops = change_drops proper change abort_keeps

  pub abort_old :
      Old (abstraction s) (abstraction (with_table s (abort_table s.table n))) (Stale s) (Stale (with_table s (abort_table s.table n)))
  abort_old = keeps_old s (abort_table s.table n) abort_keeps (change_records change)

-- ---- a change of a queue: nobody goes

module _
    (s : Ledger) (proper : Proper s) (h : ℕ) (known : IsKind h) (es : List Entry) {now : ℕ}
    (change : TableChange s.table (with_queue s.table h es) now) where
  abbrev queued : List ℕ
  queued = with_queue s.table h es

  pub queue_rows : (m : ℕ) → 1 ≤ m → RowKept s.table (with_queue s.table h es) m
  queue_rows m one g inside = given_keeps s.table proper.sound h known es m g inside (inl one)

  queue_keeps : Keeps s.table queued
  queue_keeps =
      record {
        parents = λ m l. queue_rows m (alive_given s.table m l.0).0 parent_field (inl (omega arith));
        writes = λ m k l account. queue_rows m (alive_given s.table m l.0).0 (write_field k) (inl (omega arith));
        sums = λ m k l charge. queue_rows m (alive_given s.table m l.0).0 (pending_field k) (inl (omega arith));
        reads =
            λ m k l account has.
            let row = queue_rows m (alive_given s.table m l.0).0 in
            (row (read_field k) (inl (omega arith)), row (sub_time_field k) (inr (omega arith, omega arith)));
      }

  pub queue_drops : Drop (abstraction s) (abstraction (with_table s (with_queue s.table h es)))
  queue_drops = change_drops proper change queue_keeps

  pub queue_old :
      Old (abstraction s) (abstraction (with_table s (with_queue s.table h es))) (Stale s)
      (Stale (with_table s (with_queue s.table h es)))
  queue_old = keeps_old s queued queue_keeps (change_records change)

-- ---- a failed commit

module _ (s : Ledger) (proper : Proper s) (n : ℕ) (j : Committable s.table n) where
  abbrev failed : List ℕ
  failed = with_state s.table n aborted

  change_failed : TableChange s.table failed n
  change_failed = fail_change s.table proper.sound n j

  fail_keeps : Keeps s.table failed
  fail_keeps = states_keep (λ m g inside. word_off_field s.table n m state_field g aborted (omega arith) inside)

  pub fail_drops : Drop (abstraction s) (abstraction (with_table s (with_state s.table n aborted)))
  fail_drops = change_drops proper change_failed fail_keeps

  pub fail_old :
      Old (abstraction s) (abstraction (with_table s (with_state s.table n aborted))) (Stale s) (Stale (with_table s (with_state s.table n aborted)))
  fail_old = keeps_old s failed fail_keeps (change_records change_failed)
