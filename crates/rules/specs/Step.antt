-- RULES 2 and 4: what each event answers and leaves; an event of any kind is `step`. Assumes nothing.
use Rattle.std.specs.Prelude.{ℕ, zero, suc, ◌+◌, max, Bool, true, false, cond, ◌||◌, List, [], ◌∷◌, ◌++◌, eqb, ℤ, ◌+ℤ◌, Option, Some, None}
use Rattle.rules.specs.declared.Answer.{Answer}
use Rattle.rules.specs.declared.Answer.TheVariants.{Started, Read, ReadSum, Written, Added, Entered, Ready, JudgedFailed, Committed, Failed, Aborted, Refused}
use Rattle.rules.specs.Ledger.{Ledger, ledger_of, with_table}
use Rattle.rules.specs.Range.{count, fold}
use Rattle.rules.specs.Card.{is_charge, shadow_place, with_card}
use Rattle.rules.specs.Amount.{amount_word, amount_in}
use Rattle.rules.specs.Kind.{top_kind, sub_kind}
use Rattle.rules.specs.Table.{live, aborted, highest, with_highest, counter, parent_of, with_parent, kind_of, with_state, with_end_time, with_read, has_read, with_sub_time, with_write, entered, has_card, with_pending, pending_sum, own_adds, with_own_adds, without_adds, with_sets, actions, is_child_of, without_kept, without_newest}
use Rattle.rules.specs.Walk.{is_aborted_by}
use Rattle.rules.specs.Free.{next_number}
use Rattle.rules.specs.Queue.{queue_length, head_of, is_head_ready, is_queued_failed, with_tail, with_ready, without_below}
use Rattle.rules.specs.Event.{Event, is_start, is_read, is_write, is_commit, is_abort, is_add, is_enter, is_judge}
use Rattle.rules.specs.Commit.{commit_time, committed_under}
use Rattle.rules.specs.Cause.{is_commit_outside, cause_of}
use Rattle.rules.specs.Nearest.{version, read_sum}
use Rattle.rules.specs.declared.Found.{Found}
use Rattle.rules.specs.Verdict.{commit_verdict, verdict_of}
use Rattle.rules.specs.Refusal.{refusal_numbered}

-- what an event answers and leaves
pub record Outcome : Type 0 where
  pub answer : Answer
  pub after : Ledger

-- an answer, and the table and the stores that stand beside it, as one outcome
abbrev pub outcome_of : Answer → List ℕ → List ℕ → List ℕ → Outcome
outcome_of answer table base shadow = record { answer = answer; after = ledger_of table base shadow }

-- ---- RULES 2.2: start

-- Number n is taken from its earlier holder: each child of that one gets its own number as its parent, which makes it nobody's.
unfoldable pub orphaned : List ℕ → ℕ → List ℕ
orphaned w n = fold (λ m now. cond (is_child_of w n m) (with_parent now m m) now) (actions w) w

-- number n given to a new action under p, every word of the action set
unfoldable pub give_table : List ℕ → ℕ → ℕ → List ℕ
give_table w n p =
    let counted = with_highest (orphaned w n) (max (highest w) n) in
    let opened = with_end_time (with_state (with_parent counted n p) n live) n 0 in
    with_sets (without_newest (without_kept (without_adds opened n) n) n) n (λ k. 0) (λ k. 0) (λ k. 0) (λ k. 0)

unfoldable pub start : Ledger → ℕ → Outcome
start s p =
    let n = next_number s.table in
    record { answer = Started n; after = with_table s (give_table s.table n p) }

-- ---- RULES 2.3: read

-- n's read of account k leaves its read set as it is: k is there, or n reads its own card, which is nobody else's
abbrev pub leaves_read_set : List ℕ → ℕ → ℕ → Bool
leaves_read_set w n k = has_read w n k || has_card w n k

-- k in the read set, with both counters as its times
abbrev pub with_read_now : List ℕ → ℕ → ℕ → List ℕ
with_read_now w n k = with_sub_time (with_read w n k (counter w top_kind + 1)) n k (counter w sub_kind)

unfoldable pub read_table : List ℕ → ℕ → ℕ → List ℕ
read_table w n k = cond (leaves_read_set w n k) w (with_read_now w n k)

-- a charge account's answer has the sum too
unfoldable pub read_answer : List ℕ → List ℕ → ℕ → ℕ → Answer
read_answer w base n k =
    let found = version w n k in
    let sum = amount_word (read_sum w base n k) in
    cond (is_charge k) (ReadSum found.holder found.moves sum) (Read found.holder found.moves)

unfoldable pub read : Ledger → ℕ → ℕ → Outcome
read s n k = record { answer = read_answer s.table s.base n k; after = with_table s (read_table s.table n k) }

-- ---- RULES 2.4: write

unfoldable pub write_table : List ℕ → ℕ → ℕ → List ℕ
write_table w n k = with_write w n k entered

unfoldable pub write : Ledger → ℕ → ℕ → List ℕ → Outcome
write s n k card =
    record {
      answer = Written;
      after = record { table = write_table s.table n k; base = s.base; shadow = with_card s.shadow (shadow_place n k) card };
    }

-- ---- RULES 2.10: add

unfoldable pub add_table : List ℕ → ℕ → ℕ → ℤ → List ℕ
add_table w n k x =
    let summed = with_pending (with_write w n k entered) n k (amount_word (pending_sum w n k +ℤ x)) in
    with_own_adds summed n k (amount_word (own_adds w n k +ℤ x))

unfoldable pub add : Ledger → ℕ → ℕ → List ℕ → Outcome
add s n k card = record { answer = Added; after = with_table s (add_table s.table n k (amount_in card)) }

-- ---- RULES 4.5 and 4.6: commit

-- the ledger after n fails
abbrev pub failed_ledger : Ledger → ℕ → Ledger
failed_ledger s n = with_table s (with_state s.table n aborted)

-- by whether something was found against it
unfoldable pub judged : Ledger → ℕ → Option Found → Outcome
judged s n None =
    record { answer = Committed (commit_time s.table n); after = committed_under s n (parent_of s.table n) }
judged s n (Some f) = record { answer = Failed f.against f.account; after = failed_ledger s n }

unfoldable pub commit : Ledger → ℕ → Outcome
commit s n = judged s n (commit_verdict s.table n)

-- ---- RULES 2.14: the head of a queue is tried

-- the ledger after those have been taken out of queue h whom an abort of n reaches
abbrev pub taken_out : Ledger → ℕ → ℕ → Ledger
taken_out s h n = with_table s (without_below s.table h n)

-- n, which has left its queue, is finished, by whether a sum of its commit is outside; and whether it has committed then, as a
-- list
unfoldable pub finished : Ledger → ℕ → Bool → Ledger
finished s n false = committed_under s n (parent_of s.table n)
finished s n true = failed_ledger s n

abbrev pub committing : ℕ → Bool → List ℕ
committing n false = n ∷ []
committing n true = []

-- the head of queue h, the ledger when it has been taken out, and whether a sum of its commit is outside there
abbrev pub head_in : ℕ → Ledger → ℕ
head_in h s = head_of s.table h

abbrev pub head_out : ℕ → Ledger → Ledger
head_out h s = taken_out s h (head_in h s)

abbrev pub is_head_outside : ℕ → Ledger → Bool
is_head_outside h s = is_commit_outside (head_out h s).table (head_out h s).base (head_in h s) None

-- the ledger when it has left
abbrev pub head_left : ℕ → Ledger → Ledger
head_left h s = finished (head_out h s) (head_in h s) (is_head_outside h s)

-- what those leave who leave queue h: the ledger, how many they were, and who of them has committed, in the order of leaving
pub record Left : Type 0 where
  pub after : Ledger
  pub many : ℕ
  pub commits : List ℕ

-- nobody leaves
abbrev pub nobody_left : Ledger → Left
nobody_left s = record { after = s; many = 0; commits = [] }

-- the head leaves, and the others after it
abbrev pub head_before : ℕ → Ledger → Left → Left
head_before h s rest =
    record { after = rest.after; many = suc rest.many; commits = committing (head_in h s) (is_head_outside h s) ++ rest.commits }

-- as long as the head is ready, which the Bool says of the present one, it leaves; the first number bounds how many do
unfoldable pub leave_while : ℕ → Bool → ℕ → Ledger → Left
leave_while zero b h s = nobody_left s
leave_while (suc most) false h s = nobody_left s
leave_while (suc most) true h s =
    let now = head_left h s in
    head_before h s (leave_while most (is_head_ready now.table h) h now)

-- no more leave than there are
unfoldable pub leave : ℕ → Ledger → Left
leave h s = leave_while (queue_length s.table h) (is_head_ready s.table h) h s

-- first the topactions' queue is left, then the other
unfoldable pub leave_both : Ledger → Left
leave_both s =
    let tops = leave top_kind s in
    let subs = leave sub_kind tops.after in
    record { after = subs.after; many = tops.many + subs.many; commits = tops.commits ++ subs.commits }

-- ---- RULES 2.11 and 2.12: enter and judge, at the queue of the action's kind

unfoldable pub enter_table : List ℕ → ℕ → List ℕ
enter_table w n = with_tail w (kind_of w n) n (verdict_of w (kind_of w n) n)

unfoldable pub enter : Ledger → ℕ → Outcome
enter s n = record { answer = Entered; after = with_table s (enter_table s.table n) }

-- n's verdict is failed
abbrev pub is_judged_failed : List ℕ → ℕ → Bool
is_judged_failed w n = is_queued_failed w (kind_of w n) n

-- the ledger after n's verdict is revealed, by whether it is failed, and before the head is tried
unfoldable pub revealed : Ledger → ℕ → Bool → Ledger
revealed s n true = failed_ledger (taken_out s (kind_of s.table n) n) n
revealed s n false = with_table s (with_ready s.table (kind_of s.table n) n)

unfoldable pub judge_left : Ledger → ℕ → Left
judge_left s n = leave (kind_of s.table n) (revealed s n (is_judged_failed s.table n))

abbrev pub judge_answer : Bool → ℕ → Answer
judge_answer true left = JudgedFailed left
judge_answer false left = Ready left

unfoldable pub judge : Ledger → ℕ → Outcome
judge s n =
    record {
      answer = judge_answer (is_judged_failed s.table n) (judge_left s n).many;
      after = (judge_left s n).after;
    }

-- ---- RULES 2.6: abort

unfoldable pub abort_table : List ℕ → ℕ → List ℕ
abort_table w n = fold (λ m now. cond (is_aborted_by w n m) (with_state now m aborted) now) (actions w) w

-- n and all live below it taken out of both queues
unfoldable pub out_of_both : List ℕ → ℕ → List ℕ
out_of_both w n = without_below (without_below w top_kind n) sub_kind n

-- the ledger after n and all live below it have gone, and before a head is tried
unfoldable pub dropped : Ledger → ℕ → Ledger
dropped s n = with_table s (abort_table (out_of_both s.table n) n)

unfoldable pub abort_left : Ledger → ℕ → Left
abort_left s n = leave_both (dropped s n)

unfoldable pub abort : Ledger → ℕ → Outcome
abort s n =
    record {
      answer = Aborted (count (is_aborted_by s.table n) (actions s.table)) (abort_left s n).many;
      after = (abort_left s n).after;
    }

-- ---- RULES 2.8: one event

-- an event that has no cause to be refused
unfoldable pub act : Ledger → Event → Outcome
act s e =
    cond (is_start e) (start s e.number)
    (cond (is_read e) (read s e.number e.account)
    (cond (is_write e) (write s e.number e.account e.card)
    (cond (is_commit e) (commit s e.number)
    (cond (is_add e) (add s e.number e.account e.card)
    (cond (is_enter e) (enter s e.number)
    (cond (is_judge e) (judge s e.number)
    (abort s e.number)))))))

-- any event
unfoldable pub step : Ledger → Event → Outcome
step s e =
    let cause = cause_of s.table s.base s.shadow e in
    cond (eqb cause 0) (act s e) (record { answer = Refused (refusal_numbered cause); after = s })

-- ---- RULES 6.1: who commits by leaving a queue at an event, in the order of leaving

unfoldable pub act_leavers : Ledger → Event → List ℕ
act_leavers s e =
    cond (is_judge e) (judge_left s e.number).commits
    (cond (is_abort e) (abort_left s e.number).commits
    [])

unfoldable pub leavers_at : Ledger → Event → List ℕ
leavers_at s e =
    let leavers = act_leavers s e in
    cond (eqb (cause_of s.table s.base s.shadow e) 0) leavers []
