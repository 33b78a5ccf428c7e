-- One event, taken apart by its cause and by its kind: what holds of each outcome, and of who commits by leaving a queue there,
-- holds of the event. Assumes nothing.
use Prim.Native.Nat.{ℕ, ◌≤◌}
use native.Mathlib.Omega.{arith}
use mathlib.Core.Path.{◌≡◌, refl}
use mathlib.Core.Bool.{Bool, true, false, not, cond, ◌||◌}
use mathlib.Core.List.{List, []}
use borrow.Author.Tests.{eqb-true, eqb-false, eq-eqb}
use lib.Dec.{eqb}
use Rattle.rules.specs.declared.Answer.TheVariants.{Refused}
use Rattle.rules.specs.Event.{Event, start_code, read_code, write_code, commit_code, abort_code, add_code, enter_code, judge_code, is_start, is_read, is_write, is_commit, is_abort, is_add, is_enter, is_judge}
use Rattle.rules.specs.Cause.{cause_of}
use Rattle.rules.specs.Ledger.{Ledger}
use Rattle.rules.specs.Step.{Outcome, start, read, write, commit, add, enter, judge_left, judge, abort_left, abort, act, step, act_leavers, leavers_at}
use Rattle.rules.proofs.Laws.Tests.{cond_holds}
use Rattle.rules.proofs.Laws.Allowed.{Allowed, allowed}
use Rattle.rules.specs.Refusal.{refusal_numbered}

abbrev pub cause_in : Ledger → Event → ℕ
cause_in s e = cause_of s.table s.base s.shadow e

abbrev pub AllowedIn : Ledger → Event → Type 0
AllowedIn s e = Allowed s.table s.base s.shadow e

-- an outcome, and who commits by leaving a queue beside it
abbrev pub OfStep : Type 1
OfStep = Outcome → List ℕ → Type 0

module _ (s : Ledger) (e : Event) (P : OfStep) where
  pub step_by_cause :
      P (record { answer = Refused (refusal_numbered (cause_in s e)); after = s }) [] → (AllowedIn s e → P (act s e) (act_leavers s e)) →
      P (step s e) (leavers_at s e)
  unfolding step leavers_at
  step_by_cause p q = by_cause (eqb (cause_in s e) 0) refl
    where
      by_cause :
          (b : Bool) → eqb (cause_in s e) 0 ≡ b →
          P (cond b (act s e) (record { answer = Refused (refusal_numbered (cause_in s e)); after = s })) (cond b (act_leavers s e) [])
      by_cause true zero = q (allowed s.table s.base s.shadow e (eqb-true _ 0 zero))
      by_cause false _ = p

-- ---- the kinds

-- an event of another kind than a judge or an abort lets nobody leave
no_leavers : (s : Ledger) (e : Event) → is_judge e ≡ false → is_abort e ≡ false → act_leavers s e ≡ []
unfolding act_leavers
no_leavers s e no_judge no_Abort = rw (no_judge, no_Abort)

judge_leavers : (s : Ledger) (e : Event) → is_judge e ≡ true → act_leavers s e ≡ (judge_left s e.number).commits
unfolding act_leavers
judge_leavers s e is = rw is

abort_leavers : (s : Ledger) (e : Event) → is_abort e ≡ true → act_leavers s e ≡ (abort_left s e.number).commits
unfolding act_leavers
abort_leavers s e is = rw (eqb-true e.code abort_code is)

-- a code from 1 to 8 that is none of the others is an abort's
left_over_aborts :
    {s : Ledger} (e : Event) → AllowedIn s e → is_start e ≡ false → is_read e ≡ false → is_write e ≡ false → is_commit e ≡ false →
    is_add e ≡ false → is_enter e ≡ false → is_judge e ≡ false → is_abort e ≡ true
left_over_aborts e a starts reads writes commits adds enters judges =
    let (first, last) = a.early.code_known in
    let least : abort_code ≤ e.code =
    omega (arith, first, eqb-false e.code start_code starts, eqb-false e.code read_code reads, eqb-false e.code write_code writes, eqb-false e.code commit_code commits) in
    let most : e.code ≤ abort_code =
    omega (arith, last, eqb-false e.code add_code adds, eqb-false e.code enter_code enters, eqb-false e.code judge_code judges) in
    eq-eqb e.code abort_code (omega arith)

module _ (s : Ledger) (e : Event) (P : OfStep) (a : AllowedIn s e) where
  -- of an event with this code, which is neither a judge's nor an abort's
  none_leave : {o : Outcome} (code : ℕ) → eqb e.code code ≡ true → eqb code judge_code ≡ false → eqb code abort_code ≡ false → P o [] → P o (act_leavers s e)
  none_leave code is no_judge no_Abort p =
      let here = eqb-true e.code code is in
      rw (no_leavers s e (rw here no_judge) (rw here no_Abort)) p

  pub act_by_kind :
      (is_start e ≡ true → P (start s e.number) []) → (is_read e ≡ true → P (read s e.number e.account) []) →
      (is_write e ≡ true → P (write s e.number e.account e.card) []) → (is_commit e ≡ true → P (commit s e.number) []) →
      (is_add e ≡ true → P (add s e.number e.account e.card) []) → (is_enter e ≡ true → P (enter s e.number) []) →
      (is_judge e ≡ true → P (judge s e.number) (judge_left s e.number).commits) →
      (is_abort e ≡ true → P (abort s e.number) (abort_left s e.number).commits) →
      P (act s e) (act_leavers s e)
  unfolding act
  act_by_kind starts reads writes commits adds enters judges aborts =
      let Q : Outcome → Type 0 = λ o. P o (act_leavers s e) in
      cond_holds Q (is_start e) (λ is. none_leave start_code is refl refl (starts is))
      (λ no_start. cond_holds Q (is_read e) (λ is. none_leave read_code is refl refl (reads is))
      (λ no_read. cond_holds Q (is_write e) (λ is. none_leave write_code is refl refl (writes is))
      (λ no_write. cond_holds Q (is_commit e) (λ is. none_leave commit_code is refl refl (commits is))
      (λ no_commit. cond_holds Q (is_add e) (λ is. none_leave add_code is refl refl (adds is))
      (λ no_add. cond_holds Q (is_enter e) (λ is. none_leave enter_code is refl refl (enters is))
      (λ no_enter. cond_holds Q (is_judge e) (λ is. rw (judge_leavers s e is) (judges is))
      (λ no_judge.
      let is = left_over_aborts e a no_start no_read no_write no_commit no_add no_enter no_judge in
      rw (abort_leavers s e is) (aborts is))))))))

-- an event of another kind is no start
pub no_start : (e : Event) (code : ℕ) → eqb e.code code ≡ true → eqb code start_code ≡ false → is_start e ≡ false
no_start e code is other = rw (eqb-true e.code code is) other

-- .. and may wait in a queue only where it is a judge or an abort
pub no_judge_or_abort :
    (e : Event) (code : ℕ) → eqb e.code code ≡ true → (eqb code judge_code || eqb code abort_code) ≡ false →
    not (is_judge e || is_abort e) ≡ true
no_judge_or_abort e code is other = rw (eqb-true e.code code is, other)

-- a commit that isn't refused is judged
pub step_commits : (s : Ledger) (e : Event) → cause_in s e ≡ 0 → is_commit e ≡ true → step s e ≡ commit s e.number
unfolding step act
step_commits s e none is = rw (none, eqb-true e.code commit_code is)
