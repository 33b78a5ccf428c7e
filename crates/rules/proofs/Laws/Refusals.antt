-- RULES 8.1: a refusal and its number. No two have one, and an event is refused with the number of its first cause. Assumes nothing.
use Prim.Native.Nat.{ℕ}
use native.Mathlib.Omega.{arith}
use mathlib.Core.Path.{◌≡◌, refl, ap, ◌∙◌, sym}
use mathlib.Core.Logic.{⊎_elim, ◌≢◌}
use mathlib.Core.Bool.{true, false, true≢false}
use mathlib.Core.List.{List, [], ◌∷◌}
use Rattle.std.specs.Prelude.{Result, Ok, Err, IsOk}
use Rattle.std.specs.Result.{is_err}
use borrow.Author.Tests.{ne_eqb}
use Rattle.rules.specs.declared.Answer.TheVariants.{Refused}
use Rattle.rules.specs.Event.{Event}
use Rattle.rules.specs.Ledger.{Ledger}
use Rattle.rules.specs.Step.{step}
use Rattle.rules.specs.Cause.{Cause, first_cause, store_causes, early_causes, late_causes, causes_of, cause_of}
use Rattle.rules.specs.declared.refusal.Refusal.{Refusal}
use Rattle.rules.specs.declared.refusal.Refusal.TheVariants.{StoreLength, Unsound, Code, Number, NotLive, TableFull, Account, CardLength, ChildLive, Length, Count, Opening, Kind, Amount, Sum, Queued, Judge, Queue, Time, Rule, Misfit, LongDay}
use Rattle.rules.specs.Refusal.{refusal_number, refusal_of, refusal_numbered}
use Rattle.rules.proofs.Laws.Tests.{test}

pub numbered_back : (refusal : Refusal) → refusal_numbered (refusal_number refusal) ≡ refusal
numbered_back StoreLength = refl
numbered_back Unsound = refl
numbered_back Code = refl
numbered_back Number = refl
numbered_back NotLive = refl
numbered_back TableFull = refl
numbered_back Account = refl
numbered_back CardLength = refl
numbered_back ChildLive = refl
numbered_back Length = refl
numbered_back Count = refl
numbered_back Opening = refl
numbered_back Kind = refl
numbered_back Amount = refl
numbered_back Sum = refl
numbered_back Queued = refl
numbered_back Judge = refl
numbered_back Queue = refl
numbered_back Time = refl
numbered_back Rule = refl
numbered_back Misfit = refl
numbered_back LongDay = refl

-- and none has the number 0
pub never_none : (refusal : Refusal) → refusal_number refusal ≢ 0
never_none refusal none =
    let last : LongDay ≡ refusal = ap refusal_numbered (sym none) ∙ numbered_back refusal in
    absurd (omega (arith, none, ap refusal_number last))

-- so that what is answered tells whether it is refused
pub is_refused : {A : Type 0} (answer : Result A Refusal) → is_err answer ≡ true → refusal_of answer ≢ 0
is_refused (Ok x) given = absurd (true≢false (sym given))
is_refused (Err refusal) given = never_none refusal

pub is_not_refused : {A : Type 0} (answer : Result A Refusal) → is_err answer ≡ false → refusal_of answer ≡ 0
is_not_refused (Ok x) none = refl
is_not_refused (Err refusal) none = absurd (true≢false none)

pub not_err : {A : Type 0} (answer : Result A Refusal) → ((refusal : Refusal) → answer ≢ Err refusal) → refusal_of answer ≡ 0
not_err (Ok x) other = refl
not_err (Err refusal) other = absurd (other refusal refl)

pub is_accepted : {A : Type 0} (answer : Result A Refusal) → refusal_of answer ≡ 0 → IsOk answer
is_accepted (Ok x) none = refl
is_accepted (Err refusal) none = absurd (never_none refusal none)

abbrev IsNumbered : ℕ → Type 0
IsNumbered number = refusal_number (refusal_numbered number) ≡ number

abbrev AllNumbered : List Cause → Type 0
AllNumbered [] = Unit {0}
AllNumbered (c ∷ cs) = IsNumbered c.number × AllNumbered cs

first_numbered : (cs : List Cause) → AllNumbered cs → first_cause cs ≢ 0 → IsNumbered (first_cause cs)
first_numbered [] all given = absurd (given refl)
first_numbered (c ∷ cs) all given =
    ⊎_elim
    (λ p. rw p all.0)
    (λ p. rw p (first_numbered cs all.1 (λ z. given (rw p z))))
    (test c.applies)

pub cause_numbered :
    (w base shadow : List ℕ) (e : Event) → cause_of w base shadow e ≢ 0 →
    refusal_number (refusal_numbered (cause_of w base shadow e)) ≡ cause_of w base shadow e
unfolding cause_of causes_of store_causes early_causes late_causes
cause_numbered w base shadow e given = first_numbered (causes_of w base shadow e) every given
  where
    every : AllNumbered (causes_of w base shadow e)
    every = (refl, (refl, (refl, (refl, (refl, (refl, (refl, (refl, (refl, (refl, (refl, (refl, (refl, (refl, (refl, (refl, (refl, tt)))))))))))))))))

-- an event with the cause of a refusal is answered with that, and changes nothing
pub step_refused :
    (s : Ledger) (e : Event) (refusal : Refusal) → cause_of s.table s.base s.shadow e ≡ refusal_number refusal →
    step s e ≡ record { answer = Refused refusal; after = s }
unfolding step
step_refused s e refusal is = rw (is, ne_eqb (refusal_number refusal) 0 (never_none refusal), numbered_back refusal)
