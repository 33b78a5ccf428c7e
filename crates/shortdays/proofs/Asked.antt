-- Whether an event is refused, told by the number of its cause. Assumes nothing.
use Prim.Native.Nat.{ℕ}
use mathlib.Core.Path.{◌≡◌, refl, sym, ◌∙◌}
use mathlib.Core.Bool.{not}
use lib.Dec.{eqb}
use Rattle.std.specs.Prelude.{Result, Ok, Err}
use Rattle.std.specs.Result.{is_err}
use Rattle.std.proofs.lemmas.Bool.{false_from_ne_true, eqb-true}
use Rattle.rules.specs.declared.refusal.Refusal.{Refusal}
use Rattle.rules.specs.Refusal.{refusal_of}
use Rattle.rules.proofs.Laws.Refusals.{is_refused, is_not_refused}

pub told_by_number :
    {A : Type 0} (answer : Result A Refusal) {number : ℕ} → refusal_of answer ≡ number → is_err answer ≡ not (eqb number 0)
told_by_number {A = A} (Ok x) {number = number} is = let none : number ≡ 0 = sym is ∙ is_not_refused {A = A} (Ok x) refl in rw none refl
told_by_number {A = A} (Err refusal) {number = number} is =
    rw (false_from_ne_true (eqb number 0) (λ none. is_refused {A = A} (Err refusal) refl (is ∙ eqb-true number 0 none))) refl
