-- What demand 3's proof asks of a judging rule for those who wait in the two queues: something holds of them that every step
-- keeps, and by it a head that leaves ready may pass. Assumes nothing.
use Prim.Native.Nat.{ℕ, ◌<◌}
use mathlib.Core.Path.{◌≡◌}
use mathlib.Core.Bool.{true, false}
use mathlib.Core.List.{List}
use lib.IntN.{◌+ℤ◌}
use Rattle.rules.specs.Card.{first_charge, IsCharge, IsCard}
use Rattle.rules.specs.Amount.{is_amount, amount_in}
use Rattle.rules.specs.Kind.{IsKind}
use Rattle.rules.specs.Table.{parent_of, kind_of, pending_sum, rule_of, is_forward}
use Rattle.rules.specs.Queue.{queue_length, is_queued_failed, is_head_ready, with_ready}
use Rattle.rules.specs.Ledger.{Ledger, with_table}
use Rattle.rules.specs.Commit.{committed_under}
use Rattle.rules.specs.Step.{start, read, write, add, failed_ledger, taken_out, enter, abort_table, head_in, head_out}
use Rattle.rules.proofs.Laws.Permitted.{Startable, Touchable, Committable}
use Rattle.rules.proofs.Sound.Aborting.{Spared}
use Rattle.rules.proofs.Serial.Rule.{Rule}
use Rattle.rules.proofs.Demand.Abstraction.{abstraction}
use Rattle.rules.proofs.Demand.Proper.{Proper}

pub record WaitingRule (number : ℕ) (rule : Rule abstraction) : Type 1 where
  pub Waiting : Ledger → Type 0
  -- it holds of empty queues
  pub none_waits : (s : Ledger) → ((h : ℕ) → IsKind h → queue_length s.table h ≡ 0) → Waiting s
  -- the actions' own events keep it
  pub waits_start : (s : Ledger) → Proper s → (p : ℕ) → Startable s.table p → Waiting s → Waiting (start s p).after
  pub waits_read : (s : Ledger) → Proper s → (n k : ℕ) → Touchable s.table n k → Waiting s → Waiting (read s n k).after
  pub waits_write :
      (s : Ledger) → Proper s → (n k : ℕ) → Touchable s.table n k → k < first_charge → (card : List ℕ) → IsCard card →
      Waiting s → Waiting (write s n k card).after
  pub waits_add :
      (s : Ledger) → Proper s → (n k : ℕ) → Touchable s.table n k → IsCharge k → (card : List ℕ) →
      is_amount (pending_sum s.table n k +ℤ amount_in card) ≡ true → Waiting s → Waiting (add s n k card).after
  -- and the steps of which the others are made
  pub waits_fail : (s : Ledger) → Proper s → (n : ℕ) → Committable s.table n → Waiting s → Waiting (failed_ledger s n)
  pub waits_abort :
      (s : Ledger) (proper : Proper s) (n : ℕ) → Spared s.table n proper.sound →
      Waiting s → Waiting (with_table s (abort_table s.table n))
  -- an enter of which the rule is not a misfit
  pub waits_enter :
      (s : Ledger) → Proper s → (n : ℕ) → Committable s.table n → rule_of s.table ≡ number → is_forward s.table ≡ false →
      Waiting s → Waiting (enter s n).after
  pub waits_ready :
      (s : Ledger) → Proper s → (h : ℕ) → IsKind h → (n : ℕ) → is_queued_failed s.table h n ≡ false → Waiting s →
      Waiting (with_table s (with_ready s.table h n))
  pub waits_out : (s : Ledger) → Proper s → (h : ℕ) → IsKind h → (n : ℕ) → Waiting s → Waiting (taken_out s h n)
  -- a commit event keeps it, for which the queue of its kind is empty
  pub waits_commit :
      (s : Ledger) → Proper s → (n : ℕ) → Committable s.table n → queue_length s.table (kind_of s.table n) ≡ 0 →
      Waiting s → Waiting (committed_under s n (parent_of s.table n))
  -- the head of a queue, taken out, may pass, and its commit keeps it
  pub head_passes :
      (h : ℕ) → IsKind h → (s : Ledger) → Proper s → is_head_ready s.table h ≡ true → Waiting s →
      rule.pass (head_out h s) (head_in h s)
  pub waits_head_committed :
      (h : ℕ) → IsKind h → (s : Ledger) → Proper s → is_head_ready s.table h ≡ true → Waiting s → Proper (head_out h s) →
      Waiting (committed_under (head_out h s) (head_in h s) (parent_of (head_out h s).table (head_in h s)))
