-- Two lists with the same acts at every place of S add the same to every account. Assumes nothing.
use Prim.Native.Nat.{ℕ}
use native.Mathlib.Decide.{ℕ_discrete}
use mathlib.Core.Path.{◌≡◌, refl, sym, ap, ◌∙◌}
use mathlib.Core.Logic.{◌≢◌}
use mathlib.Core.Bool.{Bool, true, false, cond}
use mathlib.Core.List.{List, [], ◌∷◌, ◌++◌, cons-ne-nil, head-eq_of_cons-eq, tail-eq_of_cons-eq}
use lib.Dec.{eqb}
use lib.IntN.{ℤ, pos, ◌+ℤ◌, +ℤ_idl, +ℤ_assoc, +ℤ_comm}
use borrow.Author.Tests.{eq-eqb, ne_eqb}
use Rattle.rules.specs.Serial.Reach.{Act, at_place}
use Rattle.rules.specs.Serial.Conserved.{added_by, added_to}
use Rattle.rules.proofs.Serial.Acts.{at_place_append}

module _ (k : ℕ) where
  -- what one act adds to account k
  added_here : Act → ℤ
  added_here x = cond (eqb x.account k) (added_by x.effect) (pos 0)

  added_first : (x : Act) (xs : List Act) → added_to k (x ∷ xs) ≡ added_here x +ℤ added_to k xs
  unfolding added_to added_here
  added_first x xs = cases (eqb x.account k) (added_by x.effect) (added_to k xs)
    where
      cases : (b : Bool) (own later : ℤ) → cond b (own +ℤ later) later ≡ cond b own (pos 0) +ℤ later
      cases true own later = refl
      cases false own later = sym (+ℤ_idl later)

  pub added_append : (xs ys : List Act) → added_to k (xs ++ ys) ≡ added_to k xs +ℤ added_to k ys
  unfolding added_to
  added_append [] ys = sym (+ℤ_idl (added_to k ys))
  added_append (x ∷ xs) ys =
      added_first x (xs ++ ys)
      ∙ ap (λ later. added_here x +ℤ later) (added_append xs ys)
      ∙ sym (+ℤ_assoc (added_here x) (added_to k xs) (added_to k ys))
      ∙ ap (λ sum. sum +ℤ added_to k ys) (sym (added_first x xs))

  -- an act in the midst of others might as well stand before them
  added_moved :
      (before : List Act) (x : Act) (behind : List Act) →
      added_to k (before ++ (x ∷ behind)) ≡ added_to k (x ∷ (before ++ behind))
  added_moved before x behind =
      added_append before (x ∷ behind)
      ∙ ap (λ sum. added_to k before +ℤ sum) (added_first x behind)
      ∙ sym (+ℤ_assoc (added_to k before) (added_here x) (added_to k behind))
      ∙ ap (λ sum. sum +ℤ added_to k behind) (+ℤ_comm (added_to k before) (added_here x))
      ∙ +ℤ_assoc (added_here x) (added_to k before) (added_to k behind)
      ∙ ap (λ sum. added_here x +ℤ sum) (sym (added_append before behind))
      ∙ sym (added_first x (before ++ behind))

-- ---- the first act of a place, and those before and behind it

module _ (i : ℕ) (x : Act) (xs : List Act) where
  at_own_place : x.place ≡ i → at_place i (x ∷ xs) ≡ x ∷ at_place i xs
  unfolding at_place
  at_own_place here = rw (eq-eqb x.place i here)

  at_other_place : x.place ≢ i → at_place i (x ∷ xs) ≡ at_place i xs
  unfolding at_place
  at_other_place elsewhere = rw (ne_eqb x.place i elsewhere)

-- x is the first of the acts ys at place i
record FirstAt (i : ℕ) (x : Act) (ys : List Act) : Type 0 where
  pub before : List Act
  pub behind : List Act
  pub parts : ys ≡ before ++ (x ∷ behind)
  pub none_before : at_place i before ≡ []

first_at : (i : ℕ) (x : Act) (ys rest : List Act) → at_place i ys ≡ x ∷ rest → FirstAt i x ys
unfolding at_place
first_at i x [] rest found = absurd (cons-ne-nil x rest (sym found))
first_at i x (y ∷ ys) rest found = cases (ℕ_discrete y.place i) (first_at i x ys rest)
  where
    cases : Dec (y.place ≡ i) → (at_place i ys ≡ x ∷ rest → FirstAt i x ys) → FirstAt i x (y ∷ ys)
    cases (yes here) later =
        let is_x : y ≡ x = head-eq_of_cons-eq (sym (at_own_place i y ys here) ∙ found) in
        record { before = []; behind = ys; parts = ap (λ z. z ∷ ys) is_x; none_before = refl }
    cases (no elsewhere) later =
        let there = later (sym (at_other_place i y ys elsewhere) ∙ found) in
        record {
          before = y ∷ there.before;
          behind = there.behind;
          parts = ap (λ l. y ∷ l) there.parts;
          none_before = at_other_place i y there.before elsewhere ∙ there.none_before;
        }

-- ---- the same acts

-- with x left out of both lists they have the same acts at every place still
module _ (x : Act) (xs ys : List Act) (same : (i : ℕ) → at_place i (x ∷ xs) ≡ at_place i ys) (there : FirstAt x.place x ys) where
  rest_same : (i : ℕ) → at_place i xs ≡ at_place i (there.before ++ there.behind)
  rest_same i = cases (ℕ_discrete x.place i) ∙ sym (at_place_append i there.before there.behind)
    where
      parted : at_place i (x ∷ xs) ≡ at_place i there.before ++ at_place i (x ∷ there.behind)
      parted = same i ∙ ap (at_place i) there.parts ∙ at_place_append i there.before (x ∷ there.behind)

      cases : Dec (x.place ≡ i) → at_place i xs ≡ at_place i there.before ++ at_place i there.behind
      cases (yes here) =
          let none : at_place i there.before ≡ [] = rw here at there.none_before in
          rw none
          (tail-eq_of_cons-eq (sym (at_own_place i x xs here) ∙ rw none at parted ∙ at_own_place i x there.behind here))
      cases (no elsewhere) =
          sym (at_other_place i x xs elsewhere) ∙ parted
          ∙ ap (λ l. at_place i there.before ++ l) (at_other_place i x there.behind elsewhere)

pub same_added :
    (k : ℕ) (xs ys : List Act) → ((i : ℕ) → at_place i xs ≡ at_place i ys) → added_to k xs ≡ added_to k ys
unfolding at_place
same_added k [] [] same = refl
same_added k [] (y ∷ ys) same =
    absurd (cons-ne-nil y _ (sym (at_own_place y.place y ys refl) ∙ sym (same y.place)))
same_added k (x ∷ xs) ys same =
    let there = first_at x.place x ys _ (sym (same x.place) ∙ at_own_place x.place x xs refl) in
    added_first k x xs
    ∙ ap (λ later. added_here k x +ℤ later) (same_added k xs (there.before ++ there.behind) (rest_same x xs ys same there))
    ∙ sym (added_first k x (there.before ++ there.behind))
    ∙ sym (added_moved k there.before x there.behind)
    ∙ ap (added_to k) (sym there.parts)
