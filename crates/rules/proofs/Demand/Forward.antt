-- Rule 2, by which commits are judged forwards, RULES 4.12: by what those who are still live have read. Nobody waits under it: both
-- queues stay empty, since no enter is let through. Assumes nothing.
use Prim.Native.Nat.{ℕ}
use native.Mathlib.Omega.{arith}
use native.Mathlib.Decide.{ℕ_discrete}
use mathlib.Core.Path.{◌≡◌, refl, sym, ◌∙◌}
use mathlib.Core.Bool.{true}
use mathlib.Core.List.{List}
use lib.Dec.{ltb}
use lib.ListN.{length, length-map}
use borrow.Author.Tests.{ltb-true}
use Rattle.rules.specs.Kind.{IsKind}
use Rattle.rules.specs.Table.{forward_rule}
use Rattle.rules.specs.Queue.{queue_length, Entry, queue, is_head_ready, with_queue, readied, with_ready, keeps_place, without_below}
use Rattle.rules.specs.Free.{next_number}
use Rattle.rules.specs.Ledger.{Ledger, with_table}
use Rattle.rules.specs.Step.{start, read, taken_out}
use Rattle.rules.proofs.Laws.Tests.{and_left, not_both}
use Rattle.rules.proofs.Laws.Lists.{length_filter}
use Rattle.rules.proofs.Laws.Queue.{SameLine, length_of_queue, queue_length_same}
use Rattle.rules.proofs.Laws.Permitted.{Startable, Touchable}
use Rattle.rules.proofs.Sound.Giving.{give_line}
use Rattle.rules.proofs.Sound.Reading.{read_line}
use Rattle.rules.proofs.Sound.QueueChanges.{other_line}
use Rattle.rules.proofs.Sound.Judging.{fail_line}
use Rattle.rules.proofs.Sound.Aborting.{abort_line}
use Rattle.rules.proofs.Sound.Committing.{commit_line}
use Rattle.rules.proofs.Clash.CommitAnswers.{forward_verdict}
use Rattle.rules.proofs.Serial.Ahead.{ahead_rule}
use Rattle.rules.proofs.Demand.Abstraction.{abstraction}
use Rattle.rules.proofs.Demand.Proper.{Proper}
use Rattle.rules.proofs.Demand.Starts.{start_givable}
use Rattle.rules.proofs.Demand.Writes.{write_enters}
use Rattle.rules.proofs.Demand.Adds.{add_enters}
use Rattle.rules.proofs.Demand.CommitTable.{still_alive_other}
use Rattle.rules.proofs.Demand.PassesAhead.{none_ahead_passes}
use Rattle.rules.proofs.Demand.WaitingRule.{WaitingRule}
use Rattle.rules.proofs.Demand.JudgingRule.{JudgingRule}

-- ---- nobody waits

abbrev AreEmpty : List ℕ → Type 0
AreEmpty w = (h : ℕ) → IsKind h → queue_length w h ≡ 0

abbrev NobodyWaits : Ledger → Type 0
NobodyWaits s = AreEmpty s.table

-- at a step that leaves both queues as they are
same_lines : (w v : List ℕ) → ((h : ℕ) → IsKind h → SameLine w v h) → AreEmpty w → AreEmpty v
same_lines w v same none h known = (same h known).same_length ∙ none h known

-- at one that gives a queue anew, with no more entries than it had
given_none :
    (s : Ledger) → Proper s → (h : ℕ) → IsKind h → (es : List Entry) → length es ≡ 0 → NobodyWaits s →
    NobodyWaits (with_table s (with_queue s.table h es))
given_none s proper h known es none empty x is = go (ℕ_discrete x h)
  where
    go : Dec (x ≡ h) → queue_length (with_queue s.table h es) x ≡ 0
    go (yes same) = rw same (queue_length_same h known s.table es proper.sound.long ∙ none)
    go (no apart) = (other_line s.table proper.sound h known es x is apart).same_length ∙ empty x is

module _ (s : Ledger) (proper : Proper s) where
  start_none : (p : ℕ) → Startable s.table p → NobodyWaits s → NobodyWaits (start s p).after
  unfolding start
  start_none p permitted =
      same_lines s.table _ (λ h known. give_line s.table (next_number s.table) p h (start_givable proper permitted).first known)

  read_none : (n k : ℕ) → Touchable s.table n k → NobodyWaits s → NobodyWaits (read s n k).after
  unfolding read
  read_none n k permitted = same_lines s.table _ (read_line s.table n k permitted.account proper.sound permitted.own)

  module _ (h : ℕ) (known : IsKind h) (n : ℕ) where
    ready_none : NobodyWaits s → NobodyWaits (with_table s (with_ready s.table h n))
    unfolding with_ready
    ready_none none =
        given_none s proper h known _
        (length-map (queue s.table h) (readied n) ∙ length_of_queue s.table h ∙ none h known) none

    out_none : NobodyWaits s → NobodyWaits (taken_out s h n)
    unfolding without_below
    out_none none =
        given_none s proper h known _
        (omega (arith, length_filter (keeps_place s.table n) (queue s.table h), length_of_queue s.table h, none h known)) none

-- so no head leaves
no_head : (h : ℕ) → IsKind h → (s : Ledger) → is_head_ready s.table h ≡ true → NobodyWaits s → ⊥
unfolding is_head_ready
no_head h known s ready none = omega (arith, ltb-true 0 (queue_length s.table h) (and_left (ltb 0 (queue_length s.table h)) _ ready), none h known)

forward_waits : WaitingRule forward_rule (ahead_rule abstraction)
forward_waits =
    record {
      Waiting = NobodyWaits;
      none_waits = λ s none. none;
      waits_start = start_none;
      waits_read = read_none;
      waits_write = λ s proper n k p below card whole. same_lines s.table _ (write_enters s proper n k p below card whole).same_line;
      waits_add = λ s proper n k p charge card fits. same_lines s.table _ (add_enters s proper n k p charge card fits).same_line;
      waits_fail = λ s proper n j. same_lines s.table _ (fail_line s.table proper.sound n j);
      waits_abort = λ s proper n spared. same_lines s.table _ (abort_line s.table n proper.sound);
      waits_enter = λ s proper n j ruled fits none. absurd (not_both (rw ruled refl) fits);
      waits_ready = λ s proper h known n fine. ready_none s proper h known n;
      waits_out = out_none;
      waits_commit = λ s proper n j empty. same_lines s.table _ (commit_line s n _ j.own.0);
      head_passes = λ h known s proper ready none. absurd (no_head h known s ready none);
      waits_head_committed = λ h known s proper ready none out. absurd (no_head h known s ready none);
    }

-- ---- the rule

pub forward : JudgingRule
forward =
    record {
      number = forward_rule;
      rule = ahead_rule abstraction;
      passes = λ s proper n j ruled clear.
          none_ahead_passes s proper n j (sym (forward_verdict s.table n (rw ruled refl)) ∙ clear);
      at_start = λ s proper p permitted. tt;
      at_read = λ s proper n k permitted. tt;
      at_write = λ s proper n k permitted below card whole. tt;
      at_add = λ s proper n k permitted charge card fits. tt;
      at_abort = λ s proper n spared. tt;
      at_queue = λ s proper h known es change. tt;
      at_failed_commit = λ s proper n j. tt;
      at_commit = λ s proper n j still. still_alive_other proper j refl n still refl;
      waits = forward_waits;
    }

pub forward_number : forward.number ≡ forward_rule
unfolding forward
forward_number = refl
