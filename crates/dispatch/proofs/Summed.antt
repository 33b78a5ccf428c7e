-- An event that has no cause to be refused but, perhaps, the last: what a step makes of it, by its code. Assumes nothing.
use Prim.Native.Nat.{ℕ}
use mathlib.Core.Path.{◌≡◌, refl, sym, ◌∙◌}
use mathlib.Core.Bool.{Bool, true, false, cond}
use mathlib.Core.List.{List}
use lib.Dec.{eqb}
use Rattle.rules.specs.declared.Answer.{Answer}
use Rattle.rules.specs.declared.Answer.TheVariants.{Refused}
use Rattle.rules.specs.declared.event.Code.{Code}
use Rattle.rules.specs.declared.event.Code.TheVariants.{Start, Read, Write, Commit, Abort, Add, Enter, Judge}
use Rattle.rules.specs.declared.refusal.Refusal.TheVariants.{Sum}
use Rattle.rules.specs.Code.{code_number}
use Rattle.rules.specs.Refusal.{refusal_numbered}
use Rattle.rules.specs.Event.{Event}
use Rattle.rules.specs.Cause.{first_cause, early_causes, sum_cause, is_read_outside, is_add_outside, is_commit_outside, are_outside, is_sum_outside}
use Rattle.rules.specs.Verdict.{commit_verdict}
use Rattle.rules.specs.Ledger.{Ledger, ledger_of}
use Rattle.rules.specs.Step.{Outcome, outcome_of, start, read, write, add, commit, enter, judge, abort, act, step}
use Rattle.causes.proofs.Grouped.{Accepted, event_summed}
use Rattle.events.specs.Sums.{read_says, read_leaves, add_says, add_leaves}
use Rattle.commits.specs.Outside.{unless_outside}

-- an answer and a table that a sum decides, beside stores that stay, are an outcome that it decides
decided :
    (outside : Bool) (answer : Answer) (w v base shadow : List ℕ) →
    outcome_of (cond outside (Refused Sum) answer) (cond outside w v) base shadow
    ≡ unless_outside outside (ledger_of w base shadow) (outcome_of answer v base shadow)
decided true answer w v base shadow = refl
decided false answer w v base shadow = refl

-- what a step makes of an event with this code: of a sum that a read, an add or a commit makes it may be refused
abbrev pub step_as : Ledger → Event → Code → Outcome
step_as s e Start = start s e.number
step_as s e Read =
    outcome_of (read_says s.table s.base e.number e.account) (read_leaves s.table s.base e.number e.account)
    s.base s.shadow
step_as s e Write = write s e.number e.account e.card
step_as s e Commit =
    unless_outside (is_commit_outside s.table s.base e.number (commit_verdict s.table e.number)) s
    (commit s e.number)
step_as s e Abort = abort s e.number
step_as s e Add =
    outcome_of (add_says s.table e.number e.account e.card) (add_leaves s.table e.number e.account e.card)
    s.base s.shadow
step_as s e Enter = enter s e.number
step_as s e Judge = judge s e.number

module _
    (s : Ledger) (e : Event) (accepted : Accepted s.table s.base s.shadow)
    (none : first_cause (early_causes s.table e) ≡ 0) where
  -- its sums decide
  summed : step s e ≡ unless_outside (is_sum_outside s.table s.base e) s (act s e)
  unfolding step
  summed = rw (event_summed s.table s.base s.shadow e accepted none) (cases (is_sum_outside s.table s.base e))
    where
      cases :
          (b : Bool) →
          cond (eqb (cond b sum_cause 0) 0) (act s e) (record { answer = Refused (refusal_numbered (cond b sum_cause 0)); after = s })
          ≡ unless_outside b s (act s e)
      cases true = refl
      cases false = refl

  pub step_by_code : (code : Code) → code_number code ≡ e.code → step s e ≡ step_as s e code
  unfolding act are_outside read add
  step_by_code Start is = summed ∙ rw (← is)
  step_by_code Read is =
      summed
      ∙ rw (← is)
      (sym (decided (is_read_outside s.table s.base e.number e.account) _ s.table _ s.base s.shadow))
  step_by_code Write is = summed ∙ rw (← is)
  step_by_code Commit is = summed ∙ rw (← is)
  step_by_code Abort is = summed ∙ rw (← is)
  step_by_code Add is =
      summed
      ∙ rw (← is)
      (sym (decided (is_add_outside s.table e.number e.account e.card) _ s.table _ s.base s.shadow))
  step_by_code Enter is = summed ∙ rw (← is)
  step_by_code Judge is = summed ∙ rw (← is)
