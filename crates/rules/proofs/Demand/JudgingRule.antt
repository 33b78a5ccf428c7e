-- What demand 3's proof asks of the rule by which commits are judged: the rule itself, that a commit which the engine lets
-- pass may pass by it, what it has to be told of each step, and what holds of those who wait to be judged. Assumes nothing.
use Prim.Native.Nat.{ℕ, ◌<◌}
use mathlib.Core.Path.{◌≡◌}
use mathlib.Core.Bool.{true}
use mathlib.Core.List.{List}
use lib.IntN.{◌+ℤ◌}
use Rattle.std.specs.Prelude.{None}
use Rattle.rules.specs.Card.{first_charge, IsCharge, IsCard}
use Rattle.rules.specs.Amount.{is_amount, amount_in}
use Rattle.rules.specs.Table.{aborted, parent_of, with_state, pending_sum, rule_of}
use Rattle.rules.specs.Verdict.{commit_verdict}
use Rattle.rules.specs.Ledger.{Ledger, with_table}
use Rattle.rules.specs.Kind.{IsKind}
use Rattle.rules.specs.Queue.{Entry, with_queue}
use Rattle.rules.specs.Commit.{committed_under}
use Rattle.rules.specs.Step.{start, read, write, add, abort_table}
use Rattle.rules.proofs.Laws.Permitted.{Startable, Touchable, Committable}
use Rattle.rules.proofs.Sound.TableChanges.{TableChange}
use Rattle.rules.proofs.Sound.Aborting.{Spared}
use Rattle.rules.proofs.Serial.Rule.{Rule}
use Rattle.rules.proofs.Demand.Abstraction.{abstraction}
use Rattle.rules.proofs.Demand.Proper.{Proper}
use Rattle.rules.proofs.Demand.WaitingRule.{WaitingRule}

pub record JudgingRule : Type 1 where
  -- RULES 1.12: the rule's number, by which a table says that it is under it
  pub number : ℕ
  pub rule : Rule abstraction
  pub passes :
      (s : Ledger) → Proper s → (n : ℕ) → Committable s.table n → rule_of s.table ≡ number →
      commit_verdict s.table n ≡ None → rule.pass s n
  pub at_start : (s : Ledger) → Proper s → (p : ℕ) → Startable s.table p → rule.CalmFacts s (start s p).after
  pub at_read : (s : Ledger) → Proper s → (n k : ℕ) → Touchable s.table n k → rule.CalmFacts s (read s n k).after
  pub at_write :
      (s : Ledger) → Proper s → (n k : ℕ) → Touchable s.table n k → k < first_charge → (card : List ℕ) → IsCard card →
      rule.CalmFacts s (write s n k card).after
  pub at_add :
      (s : Ledger) → Proper s → (n k : ℕ) → Touchable s.table n k → IsCharge k → (card : List ℕ) →
      is_amount (pending_sum s.table n k +ℤ amount_in card) ≡ true → rule.CalmFacts s (add s n k card).after
  pub at_abort :
      (s : Ledger) (proper : Proper s) (n : ℕ) → Spared s.table n proper.sound →
      rule.CalmFacts s (with_table s (abort_table s.table n))
  -- a change of a queue
  pub at_queue :
      (s : Ledger) → Proper s → (h : ℕ) → IsKind h → (es : List Entry) {now : ℕ} →
      TableChange s.table (with_queue s.table h es) now →
      rule.CalmFacts s (with_table s (with_queue s.table h es))
  pub at_failed_commit :
      (s : Ledger) → Proper s → (n : ℕ) → Committable s.table n →
      rule.CalmFacts s (with_table s (with_state s.table n aborted))
  pub at_commit :
      (s : Ledger) → Proper s → (n : ℕ) → Committable s.table n →
      rule.CommitFacts s (committed_under s n (parent_of s.table n)) n (parent_of s.table n)
  pub waits : WaitingRule number rule
