-- The causes that the engine asks together are those of the rules that are left where the others don't apply. Assumes nothing.
use Prim.Native.Nat.{ℕ, ◌≤◌, ◌<◌}
use native.Mathlib.Omega.{arith}
use mathlib.Core.Path.{◌≡◌, refl, sym, ap, ◌∙◌}
use mathlib.Core.Logic.{⊎_elim, ◌≢◌}
use mathlib.Core.Bool.{Bool, true, false, not, cond, ◌&&◌, and-false, or-false}
use mathlib.Core.List.{List, [], ◌∷◌, ◌++◌}
use borrow.Author.Tests.{lt-leb, le-ltb, eq-eqb, ne_eqb, not-false, ltb-true}
use lib.Dec.{eqb, ltb}
use lib.ListN.{length, drop}
use Rattle.std.specs.Prelude.{Result, Ok, Err, IsErrAnd}
use Rattle.rules.specs.Card.{account_count, base_length, shadow_length, StoresFit}
use Rattle.rules.specs.Table.{highest, is_live}
use Rattle.rules.specs.Sound.{sound, Sound}
use Rattle.rules.specs.Event.{Event, event_of, start_code, write_code, add_code}
use Rattle.rules.specs.declared.event.Code.{Code}
use Rattle.rules.specs.declared.event.Code.TheVariants.{Start, Read, Write, Commit, Abort, Add, Enter, Judge}
use Rattle.rules.specs.Code.{code_number}
use Rattle.rules.specs.Cause.{Cause, first_cause, is_store_length_wrong, sum_cause, is_sum_outside, store_causes, early_causes, late_causes, causes_of, cause_of, later_cause}
use Rattle.rules.specs.declared.refusal.Refusal.{Refusal}
use Rattle.rules.specs.Refusal.{refusal_number, refusal_of}
use Rattle.rules.proofs.Laws.Refusals.{never_none}
use Rattle.rules.proofs.Laws.Codes.{code_known, code_one}
use Rattle.rules.proofs.Laws.Tests.{and_left, and_right, test, cond_holds}
use Rattle.rules.proofs.Laws.Allowed.{not_given, stores_fit}
use Rattle.rules.proofs.Sound.Soundness.{facts, tested}
use Rattle.causes.specs.Groups.{is_misfit, start_causes, write_causes, add_causes, card_causes, busy_causes, account_causes, time_causes, enter_causes, commit_causes, judge_causes, kind_causes}

-- ---- causes, and others behind them

-- a cause that is given is given whatever stands behind it
front_given : (cs ds : List Cause) → first_cause cs ≢ 0 → first_cause (cs ++ ds) ≡ first_cause cs
front_given [] ds given = absurd (given refl)
front_given (c ∷ cs) ds given =
    ⊎_elim (λ p. rw p) (λ p. rw p (front_given cs ds (rw p at given))) (test c.applies)

-- no cause has the number 0, which stands for none
abbrev are_numbered : List Cause → Bool
are_numbered [] = true
are_numbered (c ∷ cs) = ltb 0 c.number && are_numbered cs

-- where none is given those behind them are asked
front_passed : (cs ds : List Cause) → are_numbered cs ≡ true → first_cause cs ≡ 0 → first_cause (cs ++ ds) ≡ first_cause ds
front_passed [] ds numbered none = refl
front_passed (c ∷ cs) ds numbered none =
    ⊎_elim
    (λ p.
    let own : c.number ≡ 0 = rw p at none in
    absurd (omega (arith, own, ltb-true 0 c.number (and_left (ltb 0 c.number) _ numbered))))
    (λ p. rw p (front_passed cs ds (and_right (ltb 0 c.number) _ numbered) (rw p at none)))
    (test c.applies)

-- ---- a refusal that `?` passes up

pub passed_up :
    {A : Type 0} (answer : Result A Refusal) (refusal : Refusal) → IsErrAnd answer (λ e. e ≡ refusal) →
    refusal_of answer ≡ refusal_number refusal
passed_up (Ok x) refusal passed = absurd passed
passed_up (Err e) refusal passed = ap refusal_number passed

-- it is that of the causes asked first, whatever stands behind them
front_refused :
    {A : Type 0} (cs ds : List Cause) (answer : Result A Refusal) (refusal : Refusal) → IsErrAnd answer (λ e. e ≡ refusal) →
    refusal_number refusal ≡ first_cause cs → refusal_of answer ≡ first_cause (cs ++ ds)
front_refused cs ds answer refusal passed asked =
    passed_up answer refusal passed ∙ asked ∙ sym (front_given cs ds (λ none. never_none refusal (asked ∙ none)))

-- ---- the causes of every call, 1 and 2

-- the stores fit and the table is sound
abbrev pub Accepted : List ℕ → List ℕ → List ℕ → Type 0
Accepted w base shadow = StoresFit base shadow × Sound w

module _ (w base shadow : List ℕ) where
  -- one of the two applies: it is given
  pub stores_refused :
      (cs : List Cause) {cause : ℕ} → cause ≡ first_cause (store_causes w base shadow) → cause ≢ 0 →
      first_cause (store_causes w base shadow ++ cs) ≡ cause
  stores_refused cs asked given = front_given (store_causes w base shadow) cs (λ none. given (asked ∙ none)) ∙ sym asked

  -- neither applies: those behind them are asked
  pub stores_passed : (cs : List Cause) → Accepted w base shadow → first_cause (store_causes w base shadow ++ cs) ≡ first_cause cs
  unfolding store_causes
  stores_passed cs (fits, good) =
      rw (
        eq-eqb (length base) base_length fits.base_fits,
        eq-eqb (length shadow) shadow_length fits.shadow_fits,
        tested w good,
      )

  pub stores_accepted : {cause : ℕ} → cause ≡ first_cause (store_causes w base shadow) → cause ≡ 0 → Accepted w base shadow
  unfolding store_causes
  stores_accepted asked none =
      let (wrong, more) = not_given (is_store_length_wrong base shadow) _ _ (sym asked ∙ none) in
      let (unsound, done) = not_given (not (sound w)) _ _ more in
      let fits = (stores_fit base shadow).0 wrong in
      (record { base_fits = fits.0; shadow_fits = fits.1 }, facts w (not-false (sound w) unsound))

-- ---- the causes of an event that has neither

module _ (w base : List ℕ) (e : Event) where
  -- one of the early causes applies: it is given
  pub later_asked : {cause : ℕ} → cause ≡ first_cause (early_causes w e) → cause ≢ 0 → later_cause w base e ≡ cause
  unfolding later_cause
  later_asked asked given =
      front_given (early_causes w e) (late_causes w base e) (λ none. given (asked ∙ none)) ∙ sym asked

  -- none does: the sums are asked of
  pub later_summed : first_cause (early_causes w e) ≡ 0 → later_cause w base e ≡ cond (is_sum_outside w base e) sum_cause 0
  unfolding later_cause early_causes late_causes
  later_summed none = front_passed (early_causes w e) (late_causes w base e) refl none

-- ---- the causes of an event

module _ (w base shadow : List ℕ) (e : Event) where
  pub event_refused : {cause : ℕ} → cause ≡ first_cause (store_causes w base shadow) → cause ≢ 0 → cause_of w base shadow e ≡ cause
  unfolding cause_of causes_of store_causes
  event_refused asked given = stores_refused w base shadow (early_causes w e ++ late_causes w base e) asked given

  pub event_accepted : Accepted w base shadow → cause_of w base shadow e ≡ later_cause w base e
  unfolding cause_of causes_of store_causes later_cause
  event_accepted accepted = stores_passed w base shadow (early_causes w e ++ late_causes w base e) accepted

  pub event_asked :
      {cause : ℕ} → Accepted w base shadow → cause ≡ first_cause (early_causes w e) → cause ≢ 0 → cause_of w base shadow e ≡ cause
  event_asked accepted asked given = event_accepted accepted ∙ later_asked w base e asked given

  pub event_summed :
      Accepted w base shadow → first_cause (early_causes w e) ≡ 0 → cause_of w base shadow e ≡ cond (is_sum_outside w base e) sum_cause 0
  event_summed accepted none = event_accepted accepted ∙ later_summed w base e none

-- ---- the causes of an event, by its kind

module _ (w : List ℕ) (e : Event) (code : Code) (is : code_number code ≡ e.code) (known : e.number ≤ highest w) where
  pub causes_of_start : code ≡ Start → first_cause (early_causes w e) ≡ first_cause (start_causes w e.number)
  unfolding early_causes start_causes
  causes_of_start starts =
      let one : e.code ≡ start_code = sym is ∙ ap code_number starts in
      rw (one, le-ltb (highest w) e.number known, and-false (eqb e.number 0))

  -- with another code, the causes from 7 on are those of its kind
  abbrev ByKind : Code → Type 0
  ByKind c =
      let f = event_of (code_number c) e.number e.account e.card in
      first_cause (drop 5 (early_causes w f)) ≡ first_cause (kind_causes w f)

  by_kind : (c : Code) → (c ≡ Start → ⊥) → ByKind c
  unfolding early_causes kind_causes account_causes card_causes write_causes add_causes busy_causes time_causes enter_causes commit_causes judge_causes
  by_kind Start other = absurd (other refl)
  by_kind Read other = refl
  by_kind Write other = refl
  by_kind Commit other = refl
  by_kind Abort other = refl
  by_kind Add other = rw or-false
  by_kind Enter other = refl
  by_kind Judge other = refl

  pub causes_of_kind :
      (code ≡ Start → ⊥) → is_misfit w (code_number code) ≡ false → e.number ≢ 0 → is_live w e.number ≡ true →
      first_cause (early_causes w e) ≡ first_cause (kind_causes w e)
  unfolding early_causes
  causes_of_kind other fits named alive =
      rw (
        ← is,
        code_known code,
        fits,
        le-ltb (highest w) e.number known,
        ne_eqb (code_number code) start_code (λ one. other (code_one code Start one)),
        ne_eqb e.number 0 named,
        alive,
      )
      (by_kind code other)

card_causes_numbered : (code account : ℕ) (card : List ℕ) → are_numbered (card_causes code account card) ≡ true
unfolding card_causes write_causes add_causes
card_causes_numbered code account card =
    cond_holds (λ cs. are_numbered cs ≡ true) (eqb code write_code)
    (λ _. refl)
    (λ _. cond_holds (λ cs. are_numbered cs ≡ true) (eqb code add_code) (λ _. refl) (λ _. refl))

-- where the account is known the causes of the card are asked first, and then those of a busy action
pub card_refused :
    {A : Type 0} (w : List ℕ) (e : Event) (answer : Result A Refusal) (refusal : Refusal) → e.account < account_count →
    IsErrAnd answer (λ e. e ≡ refusal) → refusal_number refusal ≡ first_cause (card_causes e.code e.account e.card) →
    refusal_of answer ≡ first_cause (account_causes w e)
unfolding account_causes
card_refused w e answer refusal known passed asked =
    rw (lt-leb account_count e.account known) (front_refused (card_causes e.code e.account e.card) (busy_causes w e.number) answer refusal passed asked)

pub card_passed :
    (w : List ℕ) (e : Event) → e.account < account_count → 0 ≡ first_cause (card_causes e.code e.account e.card) →
    first_cause (account_causes w e) ≡ first_cause (busy_causes w e.number)
unfolding account_causes
card_passed w e known none =
    rw (lt-leb account_count e.account known)
    (front_passed (card_causes e.code e.account e.card) (busy_causes w e.number) (card_causes_numbered e.code e.account e.card) (sym none))

-- of an enter and of a commit those of a busy action are asked first
pub busy_refused :
    {A : Type 0} (w : List ℕ) (n : ℕ) (cs : List Cause) (answer : Result A Refusal) (refusal : Refusal) →
    IsErrAnd answer (λ e. e ≡ refusal) → refusal_number refusal ≡ first_cause (busy_causes w n) →
    refusal_of answer ≡ first_cause (busy_causes w n ++ cs)
busy_refused w n cs answer refusal passed asked = front_refused (busy_causes w n) cs answer refusal passed asked

pub busy_passed :
    (w : List ℕ) (n : ℕ) (cs : List Cause) → 0 ≡ first_cause (busy_causes w n) → first_cause (busy_causes w n ++ cs) ≡ first_cause cs
unfolding busy_causes
busy_passed w n cs none = front_passed (busy_causes w n) cs refl (sym none)
