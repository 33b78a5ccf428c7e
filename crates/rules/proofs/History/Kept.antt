-- Every event keeps what is remembered. Assumes nothing.
use Prim.Native.Nat.{ℕ, ◌<◌}
use mathlib.Core.Path.{refl}
use mathlib.Core.List.{List, []}
use Rattle.rules.specs.declared.Found.{Found}
use Rattle.std.specs.Prelude.{Option, Some, None}
use Rattle.rules.specs.Card.{first_charge, IsCharge, IsCard}
use Rattle.rules.specs.Table.{parent_of, kind_of}
use Rattle.rules.specs.Event.{Event}
use Rattle.rules.specs.Ledger.{Ledger}
use Rattle.rules.specs.Step.{Outcome, start, read, write, add, judged, enter_table, enter, is_judged_failed, judge_left, judge, abort_left, abort, step}
use Rattle.rules.specs.Queue.{with_tail}
use Rattle.rules.specs.Serial.Told.{told}
use Rattle.rules.specs.Serial.Collect.{commits_at}
use Rattle.rules.specs.History.{History, with_records, without_given, history_one}
use Rattle.rules.proofs.Laws.Kinds.{kind_known}
use Rattle.rules.proofs.Laws.Permitted.{Startable, Touchable, Committable, Judgeable, AddFits, step_by_kind}
use Rattle.rules.proofs.Sound.QueueChanges.{tail_change}
use Rattle.rules.proofs.Demand.Proper.{Proper, revealed_proper, dropped_proper}
use Rattle.rules.proofs.Demand.Views.{records_same}
use Rattle.rules.proofs.Demand.Reads.{read_told}
use Rattle.rules.proofs.Demand.Writes.{write_enters}
use Rattle.rules.proofs.Demand.Adds.{add_enters}
use Rattle.rules.proofs.Demand.RunKeeps.{judge_told}
use Rattle.rules.proofs.History.Remembered.{Remembers}
use Rattle.rules.proofs.History.Calm.{read_remembers, entering_remembers, queue_remembers, fail_remembers}
use Rattle.rules.proofs.History.Starting.{start_remembers}
use Rattle.rules.proofs.History.Committing.{commit_remembers}
use Rattle.rules.proofs.History.Leaving.{leave_remembers, both_leave_remembers, revealed_remembers, dropped_remembers}

module _ {s : Ledger} (proper : Proper s) (e : Event) {had : History} (remembers : Remembers s had) where
  abbrev n : ℕ
  n = e.number

  abbrev k : ℕ
  k = e.account

  -- an outcome, and who commits by leaving a queue beside it
  RemembersAfter : Outcome → List ℕ → Type 0
  RemembersAfter o leavers =
      let it = told o.answer leavers in
      Remembers o.after (with_records o.after.table (commits_at e it) (without_given it had))

  starts : Startable s.table n → RemembersAfter (start s n) []
  unfolding RemembersAfter start commits_at with_records without_given
  starts permitted = start_remembers proper n permitted remembers

  reads : Touchable s.table n k → RemembersAfter (read s n k) []
  unfolding RemembersAfter read commits_at with_records without_given
  reads permitted = rw (read_told s.table s.base n k []) (read_remembers proper remembers n k permitted)

  writes : Touchable s.table n k → IsCard e.card → k < first_charge → RemembersAfter (write s n k e.card) []
  unfolding RemembersAfter write commits_at with_records without_given
  writes permitted card plain =
      entering_remembers proper remembers (write_enters s proper n k permitted plain e.card card)

  adds : Touchable s.table n k → IsCharge k → AddFits s.table n k e.card → RemembersAfter (add s n k e.card) []
  unfolding RemembersAfter add commits_at with_records without_given
  adds permitted charge fits =
      entering_remembers proper remembers (add_enters s proper n k permitted charge e.card fits.pending_fits)

  judges : Committable s.table n → (f : Option Found) → RemembersAfter (judged s n f) []
  unfolding RemembersAfter judged commits_at with_records without_given
  judges free None = commit_remembers proper free refl remembers _ (λ g inside. refl)
  judges free (Some f) = fail_remembers proper remembers n free

  enters : Committable s.table n → RemembersAfter (enter s n) []
  unfolding RemembersAfter enter enter_table with_tail commits_at with_records without_given
  enters free =
      let known = kind_known (parent_of s.table n) in
      queue_remembers proper remembers (kind_of s.table n) known _
      (tail_change proper.sound (kind_of s.table n) known n refl free _ n)

  reveals : Judgeable s.table n → RemembersAfter (judge s n) (judge_left s n).commits
  unfolding RemembersAfter judge judge_left commits_at without_given
  reveals may =
      let failed = is_judged_failed s.table n in
      let left =
      leave_remembers (kind_of s.table n) (kind_known (parent_of s.table n)) _ (revealed_proper proper n may failed) in
      rw (judge_told failed (judge_left s n).many (judge_left s n).commits)
      (left.remembers _ (records_same _) had (revealed_remembers proper n remembers may failed))

  aborts : RemembersAfter (abort s n) (abort_left s n).commits
  unfolding RemembersAfter abort abort_left commits_at without_given
  aborts =
      (both_leave_remembers _ (dropped_proper proper n)).remembers _ (records_same _) had (dropped_remembers proper n remembers)

  -- what is remembered after the event
  pub step_remembers : Remembers (step s e).after (history_one s e had)
  unfolding history_one RemembersAfter commits_at with_records without_given
  step_remembers =
      step_by_kind s e RemembersAfter remembers starts (λ permitted _. reads permitted) writes (λ free _ f _ _. judges free f)
      (λ permitted _ charge fits. adds permitted charge fits) (λ free _. enters free) reveals aborts
