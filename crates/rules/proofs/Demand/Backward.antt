-- Rule 1, by which commits are judged backwards, RULES 4.2: by what has committed since the reads. Assumes nothing.
use Prim.Native.Nat.{ℕ}
use mathlib.Core.Path.{◌≡◌, refl, sym, ◌∙◌}
use Rattle.rules.specs.Range.{up_from}
use Rattle.rules.specs.Kind.{IsKind}
use Rattle.rules.specs.Table.{backward_rule}
use Rattle.rules.specs.Queue.{queue_length, queue}
use Rattle.rules.specs.Ledger.{Ledger}
use Rattle.rules.proofs.Clash.CommitAnswers.{backward_verdict}
use Rattle.rules.proofs.Serial.Stale.{stale_rule}
use Rattle.rules.proofs.Demand.Abstraction.{abstraction, Stale}
use Rattle.rules.proofs.Demand.WaitingRule.{WaitingRule}
use Rattle.rules.proofs.Demand.JudgingRule.{JudgingRule}
use Rattle.rules.proofs.Demand.Starts.{start_old}
use Rattle.rules.proofs.Demand.Reads.{read_old}
use Rattle.rules.proofs.Demand.Entering.{entering_old}
use Rattle.rules.proofs.Demand.Writes.{write_enters}
use Rattle.rules.proofs.Demand.Adds.{add_enters}
use Rattle.rules.proofs.Demand.Drops.{abort_old, queue_old, fail_old}
use Rattle.rules.proofs.Demand.Passes.{no_clash_passes}
use Rattle.rules.proofs.Demand.CommitStale.{stale_at_commit}
use Rattle.rules.proofs.Demand.Waiting.{Waits}
use Rattle.rules.proofs.Demand.WaitingSteps.{Waiting, waits_start, waits_read, waits_entering, waits_fail, waits_abort}
use Rattle.rules.proofs.Demand.WaitingQueue.{waits_enter, waits_ready, waits_out}
use Rattle.rules.proofs.Demand.WaitingHead.{waits_commit, head_passes, waits_head_committed}

-- nothing is asked of empty queues
none_waits : (s : Ledger) → ((h : ℕ) → IsKind h → queue_length s.table h ≡ 0) → Waiting s
unfolding queue up_from Waits
none_waits s empty h known = rw (empty h known) tt

backward_waits : WaitingRule backward_rule (stale_rule abstraction Stale)
backward_waits =
    record {
      Waiting = Waiting;
      none_waits = none_waits;
      waits_start = waits_start;
      waits_read = waits_read;
      waits_write = λ s proper n k p below card whole. waits_entering s proper n k p _ _ (write_enters s proper n k p below card whole);
      waits_add = λ s proper n k p charge card fits. waits_entering s proper n k p _ _ (add_enters s proper n k p charge card fits);
      waits_fail = waits_fail;
      waits_abort = waits_abort;
      waits_enter = λ s proper n free _ _. waits_enter s proper n free;
      waits_ready = waits_ready;
      waits_out = waits_out;
      waits_commit = λ s proper n free. waits_commit proper free;
      head_passes = head_passes;
      waits_head_committed = waits_head_committed;
    }

pub backward : JudgingRule
backward =
    record {
      number = backward_rule;
      rule = stale_rule abstraction Stale;
      passes = λ s proper n j ruled clear. no_clash_passes s n (sym (backward_verdict s.table n (rw ruled refl)) ∙ clear);
      at_start = start_old;
      at_read = read_old;
      at_write = λ s proper n k p below card whole. entering_old proper p (write_enters s proper n k p below card whole);
      at_add = λ s proper n k p charge card fits. entering_old proper p (add_enters s proper n k p charge card fits);
      at_abort = abort_old;
      at_queue = queue_old;
      at_failed_commit = fail_old;
      at_commit = λ s proper n j. stale_at_commit proper j refl;
      waits = backward_waits;
    }

pub backward_number : backward.number ≡ backward_rule
unfolding backward
backward_number = refl
