-- `event` meets its contract: causes 1 and 2 come first, and where neither applies the stores fit and the table is
-- sound. Assumes nothing.
use Prim.Native.Nat.{ℕ}
use mathlib.Core.Path.{◌≡◌, refl, sym, ap}
use mathlib.Core.List.{List}
use Rattle.rules.specs.declared.Answer.{Answer}
use Rattle.rules.specs.Answer.{said}
use Rattle.rules.specs.Step.{Outcome, outcome_of}
use Rattle.rules.proofs.Laws.Refusals.{never_none, step_refused}
use Rattle.engine.specs.Promise.{Gives}
use Rattle.causes.proofs.Grouped.{stores_accepted, event_refused}
use Rattle.engine.proofs.event.event.Goals as goal

-- what is equal to an outcome gives it
gives :
    {answer : Answer} {table base shadow : List ℕ} {o : Outcome} →
    outcome_of answer table base shadow ≡ o → Gives answer table base shadow o
gives e =
    let is = ap (λ (o : Outcome). o.answer) e in
    record { is = is; says = ap said is; leaves = ap (λ (o : Outcome). o.after) e }

pub returns-in-Err : goal.returns-in-Err
returns-in-Err c = gives (sym (step_refused _ _ _ (event_refused _ _ _ _ c.in-Err.ensures (never_none _))))

pub sound_event-requires : goal.sound_event-requires
sound_event-requires c =
    let (fits, good) = stores_accepted _ _ _ c.in-Ok.ensures refl in
    record { sound = good; stores_fit = fits }

pub returns-in-Ok : goal.returns-in-Ok
returns-in-Ok c = gives c.sound_event.ensures
