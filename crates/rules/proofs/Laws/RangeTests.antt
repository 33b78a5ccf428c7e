-- What the library's searches over a range answer, in the words of the rules: `any`, `all`, `find` and `find_map`, whose closure
-- computes a test or an answer. Assumes nothing.
use Prim.Native.Nat.{ℕ, zero, suc, ◌+◌, ◌-◌, ◌≤◌, ◌<◌}
use native.Mathlib.Nat.{add-sub_cancel}
use native.Mathlib.Numerals.{add-one}
use native.Mathlib.Omega.{arith}
use mathlib.Core.Path.{◌≡◌, refl, sym, ap, subst, ◌∙◌}
use mathlib.Core.Bool.{Bool, true, ◌&&◌, ◌||◌}
use mathlib.Core.List.{List, [], ◌∷◌}
use denote.Ref.{Bor}
use denote.Param.Members.{Mut}
use Rattle.std.specs.Prelude.{Option, Some, None}
use Rattle.std.specs.declared.ops.Range.{Range}
use Rattle.std.specs.Fn.{Called, CalledAt}
use Rattle.std.specs.Iterator.{ChecksAny, ChecksAll, FindsItem, FoldsItems, Yields}
use Rattle.std.specs.Iterator.Runs.{SomeRun, AllItemsGive, IsFirstToGive}
use Rattle.std.specs.List.{range_with_len, list_any, list_all, find, FoldsTo}
use Rattle.std.specs.Option.{MatchOption, IfSome, IsSomeAnd, option_map, unwrap_or}
use Rattle.std.proofs.iter.Yields.{nat_range_steps}
use Rattle.std.proofs.iter.runs.Sources.{range_runs}
use Rattle.std.proofs.lemmas.Option.{none-some}
use Rattle.std.proofs.lemmas.Iterator.{YieldsList, YieldsList-from_range}
use Rattle.std.proofs.lemmas.Iterator.Search.{any_from_yields_List, all_from_yields_List, find_from_yields_List}
use Rattle.rules.specs.Range.{up_from, any, all}
use Rattle.rules.specs.Table.{highest, actions}

listed : (a n : ℕ) → range_with_len a n ≡ up_from a n
unfolding up_from
listed a zero = refl
listed a (suc n) = ap (λ l. a ∷ l) (listed (a + 1) n ∙ ap (λ b. up_from b n) (add-one a))

-- a range yields its numbers, rising
pub yields_run : (s : Range ℕ) → YieldsList nat_range_steps (λ x. x) s (up_from s.start (s.end - s.start))
yields_run s =
    subst (YieldsList nat_range_steps (λ x. x) s) (listed s.start (s.end - s.start))
    (YieldsList-from_range s.start s.end (s.end - s.start) refl refl)

any_listed : (test : ℕ → Bool) (l : List ℕ) → list_any test l ≡ any test l
unfolding any
any_listed test [] = refl
any_listed test (x ∷ xs) = ap (λ b. test x || b) (any_listed test xs)

all_listed : (test : ℕ → Bool) (l : List ℕ) → list_all test l ≡ all test l
unfolding all
all_listed test [] = refl
all_listed test (x ∷ xs) = ap (λ b. test x && b) (all_listed test xs)

-- a call of the closure f computes h, and leaves f as it was
abbrev pub Computes : {F R : Type 0} → Mut F (ℕ × Unit {0}) R → F → (ℕ → R) → Type 0
Computes {F = F} {R = R} g f h = (x : ℕ) (r : R) (q : F) → Called g f (x, tt) r q → (q ≡ f) × (r ≡ h x)

-- up to the highest number they are the actions
pub to_highest : (w : List ℕ) {h : ℕ} → h ≡ highest w → up_from 1 (h + 1 - 1) ≡ actions w
unfolding actions
to_highest w last = rw (add-sub_cancel, last)

module _ {F : Type 0} {g : Mut F (ℕ × Unit {0}) Bool} {u : Range ℕ} {f : F} {r : Bool} (test : ℕ → Bool) where
  pub any_of_range : {s : Range ℕ} → ChecksAny nat_range_steps g s f r u → Computes g f test → r ≡ any test (up_from s.start (s.end - s.start))
  any_of_range {s} ran computes = any_from_yields_List test _ _ _ ran (yields_run s) computes ∙ any_listed test _

  pub all_of_range : {s : Range ℕ} → ChecksAll nat_range_steps g s f r u → Computes g f test → r ≡ all test (up_from s.start (s.end - s.start))
  all_of_range {s} ran computes = all_from_yields_List test _ _ _ ran (yields_run s) computes ∙ all_listed test _

  -- of the actions, where h is what `highest` gave
  module _ (w : List ℕ) {h : ℕ} where
    pub any_of_actions : ChecksAny nat_range_steps g (record { start = 1; end = h + 1 }) f r u → h ≡ highest w → Computes g f test → r ≡ any test (actions w)
    any_of_actions ran last computes = any_of_range ran computes ∙ ap (any test) (to_highest w last)

    pub all_of_actions : ChecksAll nat_range_steps g (record { start = 1; end = h + 1 }) f r u → h ≡ highest w → Computes g f test → r ≡ all test (actions w)
    all_of_actions ran last computes = all_of_range ran computes ∙ ap (all test) (to_highest w last)

same_item : (o : Option ℕ) → o ≡ option_map (λ x. x) o
same_item None = refl
same_item (Some x) = refl

pub find_of_range :
    {F : Type 0} {g : Mut F (Bor ℕ × Unit {0}) Bool} {s : Range ℕ} {f : F} {r : Option ℕ} (test : ℕ → Bool) (u : Range ℕ) →
    FindsItem nat_range_steps g s f r u → ((x : ℕ) (b : Bool) (q : F) → CalledAt g f x b q → (q ≡ f) × (b ≡ test x)) →
    r ≡ find test (up_from s.start (s.end - s.start))
find_of_range {s = s} {r = r} test u ran computes = same_item r ∙ find_from_yields_List test _ _ _ ran (yields_run s) computes

-- ---- find_map: the first answer that isn't None, by any function `first` of a list that gives just this

module _ {B : Type 0} (answer : ℕ → Option B) (first : List ℕ → Option B) (none : first [] ≡ None)
    (here : (x : ℕ) (l : List ℕ) (y : B) → answer x ≡ Some y → first (x ∷ l) ≡ Some y)
    (next : (x : ℕ) (l : List ℕ) → answer x ≡ None → first (x ∷ l) ≡ first l) where
  none_found : (n a : ℕ) → ((k : ℕ) → k < n → answer (a + k) ≡ None) → first (up_from a n) ≡ None
  unfolding up_from
  none_found zero a h = none
  none_found (suc n) a h =
      let same : a ≡ a + 0 = omega arith in
      next a _ (ap answer same ∙ h 0 (omega arith))
      ∙ none_found n (suc a) (λ k l. let later : suc a + k ≡ a + suc k = omega arith in ap answer later ∙ h (suc k) (omega arith))

  one_found :
      (i n a : ℕ) (y : B) → i < n → answer (a + i) ≡ Some y → ((k : ℕ) → k < i → answer (a + k) ≡ None) →
      first (up_from a n) ≡ Some y
  unfolding up_from
  one_found i zero a y l is h = absurd (omega arith)
  one_found zero (suc n) a y l is h = let same : a ≡ a + 0 = omega arith in here a _ y (ap answer same ∙ is)
  one_found (suc i) (suc n) a y l is h =
      let same : a ≡ a + 0 = omega arith in
      let later : (k : ℕ) → suc a + k ≡ a + suc k = λ k. omega arith in
      next a _ (ap answer same ∙ h 0 (omega arith))
      ∙ one_found i n (suc a) y (omega arith) (ap answer (later i) ∙ is) (λ k m. ap answer (later k) ∙ h (suc k) (omega arith))

  module _ {F : Type 0} {g : Mut F (ℕ × Unit {0}) (Option B)} {f : F} where
    -- the item x, at which the closure answered v
    told :
        Computes g f answer → (o : Option ℕ) (x : ℕ) (v : Option B) → option_map (λ y. y) o ≡ Some x →
        IfSome o (λ y. Called g f (y, tt) v f) → answer x ≡ v
    told computes None x v e called = absurd (none-some x e)
    told computes (Some y) x v e called = ap answer (sym (ap (λ o. unwrap_or o x) e)) ∙ sym (computes y v f called).1

    told_so :
        Computes g f answer → (o : Option ℕ) (x : ℕ) (v : Option B) → option_map (λ y. y) o ≡ Some x →
        IsSomeAnd o (λ y. Called g f (y, tt) v f) → answer x ≡ v
    told_so computes None x v e called = absurd called
    told_so computes (Some y) x v e called = told computes (Some y) x v e called

    pub find_map_of_range :
        {s : Range ℕ} (r : Option B) →
        SomeRun nat_range_steps s (λ p.
        MatchOption r ((p.whole ≡ true) × AllItemsGive p g f None)
        (λ y. (i : ℕ) × (i < p.len) × (p.len ≡ i + 1) × IsFirstToGive p g f (Some y) None i)) →
        Computes g f answer → r ≡ first (up_from s.start (s.end - s.start))
    find_map_of_range None (p, from, is) computes =
        let run = range_runs p p.seen in
        let none = is.1 (λ a v q called. (computes a.0 v q called).0) in
        subst (λ s. None ≡ first (up_from s.start (s.end - s.start))) from
        (sym (none_found _ p.from.start
        (λ k l. let inside : k < p.len = omega (arith, run.1 is.0) in told computes (p.at k) _ None (run.3 k inside) (none k))))
    find_map_of_range (Some y) (p, from, is) computes =
        let run = range_runs p p.seen in
        let one = is.3 (λ a v q called. (computes a.0 v q called).0) in
        subst (λ s. Some y ≡ first (up_from s.start (s.end - s.start))) from
        (sym (one_found is.0 _ p.from.start y (omega (arith, is.1, run.0))
        (told_so computes (p.at is.0) _ (Some y) (run.3 is.0 is.1) one.0)
        (λ k l. let inside : k < p.len = omega (arith, is.1) in told_so computes (p.at k) _ None (run.3 k inside) (one.1 k l))))

-- ---- fold: what holds of each number and of the total before it, as a loop's invariant does, holds at the end

-- a call at k, below the end, leaves f as it was and takes what holds at k on to the next
abbrev pub Keeps : {F C : Type 0} → Mut F (C × (ℕ × Unit {0})) C → F → (ℕ → C → Type 0) → ℕ → Type 0
Keeps {F = F} {C = C} g f I end =
    (k : ℕ) (a b : C) (q : F) → k < end → I k a → Called g f (a, (k, tt)) b q → (q ≡ f) × I (k + 1) b

module _ {F C : Type 0} {g : Mut F (C × (ℕ × Unit {0})) C} {f : F} (I : ℕ → C → Type 0) where
  folded :
      (end : ℕ) → Keeps g f I end → (xs : List ℕ) (s t u : Range ℕ) (p q : F) (a r : C) → s.end ≡ end → s.start ≤ end → p ≡ f → I s.start a →
      Yields nat_range_steps s xs t → nat_range_steps t None u →
      FoldsTo {P = F × C} (λ p x q. Called g p.0 (p.1, (x, tt)) q.1 q.0) (p, a) xs (q, r) → I end r
  folded end keeps [] s t u p q a r ends below same holds at last total =
      let there : s.start ≡ end = omega (arith, last.1.0, ap (λ x. x.end) at, ap (λ x. x.start) at) in
      subst (λ k. I k r) there (subst (I s.start) (ap (λ x. x.1) total) holds)
  folded end keeps (x ∷ xs) s t u p q a r ends below same holds (j, one, rest) last (total, called, totals) =
      let inside : s.start < end = omega (arith, one.1.0, ends) in
      let here : Called g f (a, (s.start, tt)) total.1 total.0 =
      subst (λ p. Called g p (a, (s.start, tt)) total.1 total.0) same
      (subst (λ x. Called g p (a, (x, tt)) total.1 total.0) one.1.1 called) in
      let next = keeps s.start a total.1 total.0 inside holds here in
      folded end keeps xs j t u total.0 q total.1 r (one.0 ∙ ends) (omega (arith, one.1.2)) next.0
      (subst (λ k. I k total.1) (sym one.1.2) next.1) rest last totals

  pub fold_of_range :
      {s : Range ℕ} {init r : C} → FoldsItems nat_range_steps g s f init r → s.start ≤ s.end → I s.start init →
      Keeps g f I s.end → I s.end r
  fold_of_range {s} {init} {r} ran below holds keeps =
      folded s.end keeps ran.0 s ran.2.1.0 ran.2.0 f ran.1 init r refl below refl holds ran.2.1.1 ran.2.1.2 ran.3
