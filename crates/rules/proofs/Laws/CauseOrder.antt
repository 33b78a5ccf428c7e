-- RULES 8.1: the causes of an event stand in an order that is not that of their numbers. The one that is given is the first that
-- applies, and where it is 9 at most it is the lowest. Assumes nothing.
use Prim.Native.Nat.{ℕ, ◌≤◌, ◌<◌}
use native.Mathlib.Omega.{arith}
use native.Mathlib.Nat.{le_of_eq}
use mathlib.Core.Path.{◌≡◌, refl, sym, ap, ◌∙◌}
use mathlib.Core.Logic.{⊎_elim, ◌≢◌}
use mathlib.Core.Bool.{Bool, true, false, cond, ◌&&◌}
use mathlib.Core.List.Memᴰ
use mathlib.Core.List.{List, [], ◌∷◌, ◌++◌, map, Memᴰ}
use lib.Dec.{leb, ltb}
use borrow.Author.Tests.{ltb-true}
use Rattle.rules.specs.Event.{Event}
use Rattle.rules.specs.Cause.{child_live_cause, Cause, first_cause, store_causes, early_causes, late_causes, causes_of, cause_of}
use Rattle.rules.proofs.Laws.Tests.{test, and_left, and_right, cond_holds, leb_fails}

-- c is the first of these causes that applies: none before it does
pub record IsFirstToApply (cs : List Cause) (c : Cause) : Type 0 where
  pub before : List Cause
  pub behind : List Cause
  pub stands : cs ≡ before ++ (c ∷ behind)
  pub applies : c.applies ≡ true
  pub earlier : (d : Cause) → Memᴰ d before → d.applies ≡ false

-- a cause that doesn't apply may stand before
skipped_first : (d : Cause) (cs : List Cause) (c : Cause) → d.applies ≡ false → IsFirstToApply cs c → IsFirstToApply (d ∷ cs) c
skipped_first d cs c not first =
    record {
      before = d ∷ first.before;
      behind = first.behind;
      stands = ap (λ l. d ∷ l) first.stands;
      applies = first.applies;
      earlier = λ x h. ⊎_elim (λ e. rw e not) (first.earlier x) (Memᴰ.cases_cons h);
    }

given_first : (cs : List Cause) → first_cause cs ≢ 0 → (c : Cause) × IsFirstToApply cs c × (c.number ≡ first_cause cs)
given_first [] given = absurd (given refl)
given_first (c ∷ cs) given =
    ⊎_elim
    (λ p. (c, record { before = []; behind = cs; stands = refl; applies = p; earlier = λ d h. absurd (Memᴰ.not-nil h) }, rw p refl))
    (λ p.
    let skipped : first_cause (c ∷ cs) ≡ first_cause cs = rw p in
    let (d, first, e) = given_first cs (λ z. given (skipped ∙ z)) in
    (d, skipped_first c cs d p first, e ∙ sym skipped))
    (test c.applies)

-- what the numbers behind x are above, if x itself is above t: x where it is 9 at most
abbrev bound : ℕ → ℕ → ℕ
bound t x = cond (leb x child_live_cause) x t

bound_rises : (t x : ℕ) → t < x → (t ≤ bound t x) × (x ≤ child_live_cause → x ≤ bound t x)
bound_rises t x h =
    cond_holds (λ b. (t ≤ b) × (x ≤ child_live_cause → x ≤ b)) (leb x child_live_cause)
    (λ low. (omega arith, λ _. omega arith))
    (λ high. (omega arith, λ low. absurd (omega (arith, (leb_fails x child_live_cause).0 high))))

-- each number is above t, and above those before it that are 9 at most
abbrev numbers_rise : ℕ → List Cause → Bool
numbers_rise t [] = true
numbers_rise t (c ∷ cs) = ltb t c.number && numbers_rise (bound t c.number) cs

rising_parts :
    (t : ℕ) (c : Cause) (cs : List Cause) → numbers_rise t (c ∷ cs) ≡ true →
    (t < c.number) × (numbers_rise (bound t c.number) cs ≡ true)
rising_parts t c cs up = (ltb-true t c.number (and_left (ltb t c.number) _ up), and_right (ltb t c.number) _ up)

rising_above : (t : ℕ) (cs : List Cause) → numbers_rise t cs ≡ true → (c : Cause) → Memᴰ c cs → t < c.number
rising_above t [] up c h = absurd (Memᴰ.not-nil h)
rising_above t (d ∷ ds) up c h =
    let (here, rest) = rising_parts t d ds up in
    ⊎_elim
    (λ e. rw e here)
    (λ later. omega (arith, rising_above (bound t d.number) ds rest c later, (bound_rises t d.number here).0))
    (Memᴰ.cases_cons h)

-- where a cause applies, one is given, and where that is 9 at most its number is no higher
given_lowest :
    (t : ℕ) (cs : List Cause) → numbers_rise t cs ≡ true → (c : Cause) → Memᴰ c cs → c.applies ≡ true →
    (t < first_cause cs) × (first_cause cs ≤ child_live_cause → first_cause cs ≤ c.number)
given_lowest t [] up c h p = absurd (Memᴰ.not-nil h)
given_lowest t (d ∷ ds) up c h p =
    let (here, rest) = rising_parts t d ds up in
    ⊎_elim
    (λ e. let q : d.applies ≡ true = rw (← e) p in rw q (here, λ _. le_of_eq (ap (λ (x : Cause). x.number) (sym e))))
    (λ later.
    let rises = bound_rises t d.number here in
    let later_given = given_lowest (bound t d.number) ds rest c later p in
    ⊎_elim
    (λ q. rw q (here, λ low. omega (arith, rises.1 low, rising_above (bound t d.number) ds rest c later)))
    (λ q. rw q (omega (arith, later_given.0, rises.0), later_given.1))
    (test d.applies))
    (Memᴰ.cases_cons h)

module _ (w base shadow : List ℕ) (e : Event) where
  -- the numbers, in the order in which the causes are asked
  pub causes_numbers :
      map (λ (c : Cause). c.number) (causes_of w base shadow e)
      ≡ 1 ∷ 2 ∷ 3 ∷ 21 ∷ 4 ∷ 5 ∷ 6 ∷ 7 ∷ 8 ∷ 13 ∷ 14 ∷ 9 ∷ 16 ∷ 17 ∷ 18 ∷ 19 ∷ 15 ∷ []
  unfolding causes_of store_causes early_causes late_causes
  causes_numbers = refl

  causes_rise : numbers_rise 0 (causes_of w base shadow e) ≡ true
  unfolding causes_of store_causes early_causes late_causes
  causes_rise = refl

  -- a cause that is given is the first of the list that applies
  pub cause_first :
      cause_of w base shadow e ≢ 0 →
      (c : Cause) × IsFirstToApply (causes_of w base shadow e) c × (c.number ≡ cause_of w base shadow e)
  unfolding cause_of
  cause_first given = given_first (causes_of w base shadow e) given

  -- it is one of the list, and it applies
  pub cause_applies :
      cause_of w base shadow e ≢ 0 →
      (c : Cause) × Memᴰ c (causes_of w base shadow e) × (c.applies ≡ true) × (c.number ≡ cause_of w base shadow e)
  cause_applies given =
      let (c, first, same) = cause_first given in
      (c, rw first.stands (Memᴰ.append_right first.before (Memᴰ.head refl)), first.applies, same)

  -- where a cause applies one is given; and where its number is 9 at most, no cause that applies has a lower number
  pub cause_lowest :
      (c : Cause) → Memᴰ c (causes_of w base shadow e) → c.applies ≡ true →
      (1 ≤ cause_of w base shadow e) × (cause_of w base shadow e ≤ child_live_cause → cause_of w base shadow e ≤ c.number)
  unfolding cause_of
  cause_lowest = given_lowest 0 (causes_of w base shadow e) causes_rise
