-- What an event does to the sums of a charge account: it starts an action, or it adds, or it is a row of changes each of which
-- is calm or commits an action. Assumes nothing.
use Prim.Native.Nat.{ℕ, ◌<◌}
use native.Mathlib.Omega.{arith}
use mathlib.Core.Path.{◌≡◌, refl}
use mathlib.Core.Bool.{Bool, true, false}
use mathlib.Core.List.{List}
use Rattle.rules.specs.declared.Found.{Found}
use Rattle.std.specs.Prelude.{Option, Some, None}
use Rattle.rules.specs.Card.{first_charge, IsCharge}
use Rattle.rules.specs.Table.{parent_of, kind_of}
use Rattle.rules.specs.Kind.{IsKind, top_kind, sub_kind}
use Rattle.rules.specs.Free.{next_number}
use Rattle.rules.specs.Queue.{is_head_ready}
use Rattle.rules.specs.Event.{Event}
use Rattle.rules.specs.Ledger.{Ledger, ledger_of, with_table}
use Rattle.rules.specs.Cause.{is_commit_outside}
use Rattle.rules.specs.Commit.{committed_under}
use Rattle.rules.specs.Step.{give_table, start, read, write, add, judged, taken_out, finished, leave, leave_both, enter_table, enter, is_judged_failed, revealed, judge_left, judge, out_of_both, dropped, abort_left, abort, step, head_in, head_out, is_head_outside, head_left}
use Rattle.rules.proofs.Laws.Kinds.{kind_known}
use Rattle.rules.proofs.Laws.Permitted.{Startable, Touchable, Committable, Judgeable, step_by_kind}
use Rattle.rules.proofs.Sound.QueueChanges.{without_change, out_committable}
use Rattle.rules.proofs.Sound.Leaving.{head_committable}
use Rattle.rules.proofs.Demand.Proper.{Proper, left_proper, out_proper, revealed_proper, dropped_proper, head_out_proper, leave_by_proper_heads, leave_proper}
use Rattle.rules.proofs.Demand.Views.{change_keeps_proper}
use Rattle.rules.proofs.Tree.Quiet.{Quiet, Calm}
use Rattle.rules.proofs.Tree.CalmEvents.{read_calm, write_calm, fail_calm, abort_calm, tail_calm, ready_calm, out_calm}
use Rattle.rules.proofs.Tree.Adding.{add_quiet}

-- P is kept by every calm change and by every commit that passes
module _
    {k : ℕ} (charge : IsCharge k) (P : Ledger → Type 0)
    (calms : (s : Ledger) (v shadow : List ℕ) → Calm s.table v k → P s → P (ledger_of v s.base shadow))
    (commits :
    (s : Ledger) → Proper s → (n : ℕ) → Committable s.table n → is_commit_outside s.table s.base n None ≡ false →
    P s → P (committed_under s n (parent_of s.table n))) where
  -- ---- those who leave a queue

  finished_keeps :
      (s : Ledger) → Proper s → (n : ℕ) → Committable s.table n → (b : Bool) →
      is_commit_outside s.table s.base n None ≡ b → P s → P (finished s n b)
  unfolding finished
  finished_keeps s proper n may true _ was = calms s _ s.shadow (fail_calm proper.sound n k charge may) was
  finished_keeps s proper n may false fits was = commits s proper n may fits was

  module _ (h : ℕ) (known : IsKind h) where
    out_keeps : (s : Ledger) → Proper s → (n : ℕ) → P s → P (taken_out s h n)
    out_keeps s proper n was = calms s _ s.shadow (out_calm proper.sound n k charge h known) was

    head_keeps : (s : Ledger) → Proper s → is_head_ready s.table h ≡ true → P s → P (head_left h s)
    head_keeps s proper ready was =
        finished_keeps (head_out h s) (head_out_proper h known s proper ready) (head_in h s)
        (head_committable h known s proper.sound ready)
        (is_head_outside h s) refl (out_keeps s proper (head_in h s) was)

    leave_keeps : (s : Ledger) → Proper s → P s → P (leave h s).after
    leave_keeps =
        leave_by_proper_heads h known (λ s left. P s → P left.after) (λ s proper was. was)
        (λ s proper ready rest later was. later (head_keeps s proper ready was))

  both_leave_keeps : (s : Ledger) → Proper s → P s → P (leave_both s).after
  unfolding leave_both
  both_leave_keeps s proper was =
      leave_keeps sub_kind (omega arith) _ (leave_proper top_kind (omega arith) s proper) (leave_keeps top_kind (omega arith) s proper was)

  both_out_keeps : (s : Ledger) → Proper s → (n : ℕ) → P s → P (with_table s (out_of_both s.table n))
  unfolding out_of_both
  both_out_keeps s proper n was =
      let half = change_keeps_proper proper (without_change proper.sound top_kind (omega arith) n n) in
      out_keeps sub_kind (omega arith) _ half n (out_keeps top_kind (omega arith) s proper n was)

  -- ---- the events that are a row of such changes

  module _ (s : Ledger) (proper : Proper s) (n : ℕ) (was : P s) where
    reads : (j : ℕ) → Touchable s.table n j → P (read s n j).after
    unfolding read
    reads j p = calms s _ s.shadow (read_calm proper.sound n k charge j p) was

    writes : (j : ℕ) (card : List ℕ) → Touchable s.table n j → j < first_charge → P (write s n j card).after
    unfolding write
    writes j card p plain = calms s _ _ (write_calm proper.sound n k charge j p plain) was

    judges :
        Committable s.table n → (f : Option Found) → is_commit_outside s.table s.base n f ≡ false → P (judged s n f).after
    unfolding judged
    judges j None fits = commits s proper n j fits was
    judges j (Some f) fits = calms s _ s.shadow (fail_calm proper.sound n k charge j) was

    -- its queue
    abbrev h : ℕ
    h = kind_of s.table n

    known : IsKind h
    known = kind_known (parent_of s.table n)

    enters : Committable s.table n → P (enter s n).after
    unfolding enter enter_table
    enters free = calms s _ s.shadow (tail_calm proper.sound n k charge h known refl free _) was

    revealed_keeps : Judgeable s.table n → (b : Bool) → P (revealed s n b)
    unfolding revealed
    revealed_keeps j true =
        let free = out_committable proper.sound h known n j.queued in
        calms (taken_out s h n) _ s.shadow (fail_calm (left_proper proper n).sound n k charge free) (out_keeps h known s proper n was)
    revealed_keeps j false = calms s _ s.shadow (ready_calm proper.sound n k charge h known) was

    reveals : Judgeable s.table n → P (judge s n).after
    unfolding judge judge_left
    reveals j =
        let failed = is_judged_failed s.table n in
        leave_keeps h known _ (revealed_proper proper n j failed) (revealed_keeps j failed)

    aborts : P (abort s n).after
    unfolding abort abort_left dropped
    aborts =
        both_leave_keeps _ (dropped_proper proper n)
        (calms (with_table s (out_of_both s.table n)) _ s.shadow (abort_calm (out_proper proper n).sound n k charge)
        (both_out_keeps s proper n was))

  -- ---- any event, where a start and an add keep it too
  pub step_by_change :
      (s : Ledger) (e : Event) → Proper s → P s →
      (Startable s.table e.number → P (with_table s (give_table s.table (next_number s.table) e.number))) →
      ((v : List ℕ) → Quiet s.table v k → P (with_table s v)) → P (step s e).after
  unfolding start add
  step_by_change s e proper was starts adds =
      let n = e.number in
      let j = e.account in
      step_by_kind s e (λ o _. P o.after)
      was starts
      (λ p _. reads s proper n was j p)
      (λ p _ plain. writes s proper n was j e.card p plain)
      (λ c _ f _ fits. judges s proper n was c f fits)
      (λ p _ to fits. adds _ (add_quiet proper.sound n k charge j e.card p to fits))
      (λ free _. enters s proper n was free)
      (λ j. reveals s proper n was j)
      (aborts s proper n was)
