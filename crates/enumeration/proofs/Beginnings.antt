-- Which lists begin with an event that is taken, and which with one of the candidates. Assumes nothing.
use Prim.Native.Nat.{ℕ, zero, suc}
use native.Mathlib.Omega.{arith}
use mathlib.Core.Path.{◌≡◌, refl, ap}
use mathlib.Core.Logic.{⊎_elim}
use mathlib.Core.Bool.{Bool, true, false}
use mathlib.Core.List.Memᴰ
use mathlib.Core.List.{List, [], ◌∷◌, map, Memᴰ}
use lib.Dec.{eqb}
use borrow.Author.Tests.{eqb-true, eq-eqb}
use Rattle.rules.specs.Event.{Event}
use Rattle.rules.specs.Ledger.{Ledger}
use Rattle.rules.specs.Step.{step}
use Rattle.rules.proofs.Laws.Ranges.{Within, first_or_rest, first_within, rest_within}
use Rattle.rules.proofs.Laws.EventCases.{cause_in}
use Rattle.enumeration.specs.Lists.{candidate, beginning_by, beginning, beginning_from}

-- ---- a list that was mapped

module _ {A B : Type 0} (f : A → B) where
  mapped_member : (xs : List A) {x : A} → Memᴰ x xs → Memᴰ (f x) (map f xs)
  mapped_member [] m = absurd (Memᴰ.not-nil m)
  mapped_member (y ∷ xs) m =
      ⊎_elim (λ here. Memᴰ.head (ap f here)) (λ later. Memᴰ.tail (mapped_member xs later)) (Memᴰ.cases_cons m)

  pub member_mapped : (xs : List A) {y : B} → Memᴰ y (map f xs) → (x : A) × Memᴰ x xs × (y ≡ f x)
  member_mapped [] m = absurd (Memᴰ.not-nil m)
  member_mapped (x ∷ xs) m =
      ⊎_elim
      (λ here. (x, Memᴰ.head refl, here))
      (λ later. let (z, is, same) = member_mapped xs later in (z, Memᴰ.tail is, same))
      (Memᴰ.cases_cons m)

-- ---- one event

module _ (follow : Ledger → List (List Event)) (s : Ledger) where
  -- es begins with e, which is taken, and goes on with a list that follows it
  pub record BeginsWith (e : Event) (es : List Event) : Type 0 where
    pub taken : cause_in s e ≡ 0
    pub rest : List Event
    pub follows : Memᴰ rest (follow (step s e).after)
    pub whole : es ≡ e ∷ rest

  pub begins_with : (e : Event) {es : List Event} → Memᴰ es (beginning follow s e) → BeginsWith e es
  unfolding beginning_by
  begins_with e {es} = by_cause (eqb (cause_in s e) 0) refl
    where
      by_cause : (b : Bool) → eqb (cause_in s e) 0 ≡ b → Memᴰ es (beginning_by b follow s e) → BeginsWith e es
      by_cause true none m =
          let (rest, follows, whole) = member_mapped (λ l. e ∷ l) _ m in
          record { taken = eqb-true _ _ none; rest = rest; follows = follows; whole = whole }
      by_cause false _ m = absurd (Memᴰ.not-nil m)

  pub in_beginning :
      (e : Event) {es : List Event} → cause_in s e ≡ 0 → Memᴰ es (follow (step s e).after) →
      Memᴰ (e ∷ es) (beginning follow s e)
  unfolding beginning_by
  in_beginning e taken m = rw (eq-eqb _ _ taken) (mapped_member (λ l. e ∷ l) _ m)

  -- ---- each of the candidates

  module _ (p : ℕ) {es : List Event} where
    pub begins_with_candidate :
        (left c : ℕ) → Memᴰ es (beginning_from follow p s left c) →
        (d : ℕ) × Within c left d × BeginsWith (candidate p d) es
    unfolding beginning_from
    begins_with_candidate zero c m = absurd (Memᴰ.not-nil m)
    begins_with_candidate (suc left) c m =
        ⊎_elim
        (λ here. (c, first_within c left, begins_with (candidate p c) here))
        (λ later. let (d, within, begins) = begins_with_candidate left (suc c) later in (d, rest_within c left d within, begins))
        (Memᴰ.append_cases (beginning follow s (candidate p c)) m)

    pub in_beginning_from :
        (left c d : ℕ) → Within c left d → Memᴰ es (beginning follow s (candidate p d)) →
        Memᴰ es (beginning_from follow p s left c)
    unfolding beginning_from
    in_beginning_from zero c d within m = absurd (omega arith)
    in_beginning_from (suc left) c d within m =
        ⊎_elim
        (λ here. Memᴰ.append_left _ (rw here at m))
        (λ later. Memᴰ.append_right (beginning follow s (candidate p c)) (in_beginning_from left (suc c) d later m))
        (first_or_rest c left d within)
