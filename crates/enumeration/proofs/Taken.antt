-- Lists of short events of which none is refused, taken apart and put together event by event. Assumes nothing.
use Prim.Native.Nat.{ℕ, suc}
use native.Mathlib.Decide.{ℕ_discrete}
use native.Mathlib.Omega.{arith}
use mathlib.Core.Path.{◌≡◌, refl, ap}
use mathlib.Core.Bool.{true, false, not}
use mathlib.Core.List.{List, [], ◌∷◌}
use lib.ListN.{length}
use borrow.Author.Tests.{not-true}
use Rattle.rules.specs.Answer.{is_refused}
use Rattle.rules.specs.Range.{all}
use Rattle.rules.specs.Event.{Event}
use Rattle.rules.specs.Ledger.{Ledger}
use Rattle.rules.specs.Step.{act, step}
use Rattle.rules.specs.Run.{run}
use Rattle.rules.proofs.Laws.Tests.{and_left, and_right, and_both, not_both}
use Rattle.rules.proofs.Laws.Allowed.{allowed}
use Rattle.rules.proofs.Laws.EventCases.{cause_in}
use Rattle.rules.proofs.Stores.Untouched.{act_not_refused, cause_leaves}
use Rattle.enumeration.specs.ShortDay.{IsShort, AreShort}

-- ---- one event: it is refused where there is a cause, and only there

module _ (s : Ledger) (e : Event) where
  pub no_cause_acts : cause_in s e ≡ 0 → step s e ≡ act s e
  unfolding step
  no_cause_acts none = rw none

  no_cause_not_refused : cause_in s e ≡ 0 → is_refused (step s e).answer ≡ false
  no_cause_not_refused none = rw (no_cause_acts none) (act_not_refused s e (allowed s.table s.base s.shadow e none))

  not_refused_no_cause : is_refused (step s e).answer ≡ false → cause_in s e ≡ 0
  not_refused_no_cause fine = by_cause (ℕ_discrete (cause_in s e) 0)
    where
      by_cause : Dec (cause_in s e ≡ 0) → cause_in s e ≡ 0
      by_cause (yes none) = none
      by_cause (no some) = absurd (not_both (ap (λ o. is_refused o.answer) (cause_leaves s e some)) fine)

-- ---- lists

-- es are k events that may stand in a short day with p events before them, and s takes each of them
pub record AreTaken (k p : ℕ) (s : Ledger) (es : List Event) : Type 0 where
  pub many : length es ≡ k
  pub short : AreShort p es
  pub taken : all (λ a. not (is_refused a)) (run s es).answers ≡ true

pub none_taken : (p : ℕ) (s : Ledger) → AreTaken 0 p s []
unfolding AreShort all run
none_taken p s = record { many = refl; short = tt; taken = refl }

module _ {k p : ℕ} {s : Ledger} {e : Event} {es : List Event} where
  pub more_taken : IsShort p e → cause_in s e ≡ 0 → AreTaken k (suc p) (step s e).after es → AreTaken (suc k) p s (e ∷ es)
  unfolding AreShort all run
  more_taken short none rest =
      record {
        many = ap suc rest.many;
        short = (short, rest.short);
        taken = and_both (ap not (no_cause_not_refused s e none)) rest.taken;
      }

  pub taken_parts :
      AreTaken (suc k) p s (e ∷ es) → IsShort p e × (cause_in s e ≡ 0) × AreTaken k (suc p) (step s e).after es
  unfolding AreShort all run
  taken_parts h =
      let first = and_left (not (is_refused (step s e).answer)) _ h.taken in (
        h.short.0,
        not_refused_no_cause s e (not-true _ first),
        record {
          many = omega (arith, h.many);
          short = h.short.1;
          taken = and_right (not (is_refused (step s e).answer)) _ h.taken;
        },
      )
