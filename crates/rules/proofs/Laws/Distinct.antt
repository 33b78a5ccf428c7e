-- Numbers that stand in a list once each: what keeps them so, and that those from 1 to a bound are no more than the bound.
-- Assumes nothing.
use Prim.Native.Nat.{ℕ, zero, suc, ◌≤◌}
use native.Mathlib.Omega.{arith}
use mathlib.Core.Path.{◌≡◌, refl, sym, ap, ◌∙◌}
use mathlib.Core.Logic.{◌≢◌}
use mathlib.Core.Bool.{Bool, true, false, not, cond, ◌&&◌}
use mathlib.Core.List.{List, [], ◌∷◌, ◌++◌}
use lib.Dec.{eqb}
use lib.ListN.{length}
use Rattle.rules.specs.Range.{any, filter}
use Rattle.rules.specs.Sound.{are_distinct}
use borrow.Author.Tests.{eqb-true, eqb-false, eq-eqb, ne_eqb, not-true}
use Rattle.rules.proofs.Laws.Tests.{and_left, and_right, and_both, or_inl, or_neither, not_both, false_of_not_true, cond_holds}
use Rattle.rules.proofs.Laws.Lists.{any_none, any_append, any_filter, any_weaker}

-- ---- what keeps them so

unlisted_filter : (n : ℕ) (f : ℕ → Bool) (ns : List ℕ) → any (eqb n) ns ≡ false → any (eqb n) (filter f ns) ≡ false
unlisted_filter n f ns none =
    false_of_not_true _
    (λ kept.
    not_both
    (any_weaker _ (eqb n) (λ x both. and_right (f x) (eqb n x) both) ns (sym (any_filter (eqb n) f ns) ∙ kept))
    none)

pub distinct_parts : (n : ℕ) (ns : List ℕ) → are_distinct (n ∷ ns) ≡ true → (any (eqb n) ns ≡ false) × (are_distinct ns ≡ true)
unfolding are_distinct
distinct_parts n ns h = (not-true _ (and_left (not (any (eqb n) ns)) _ h), and_right (not (any (eqb n) ns)) _ h)

pub distinct_filter : (f : ℕ → Bool) (ns : List ℕ) → are_distinct ns ≡ true → are_distinct (filter f ns) ≡ true
unfolding are_distinct filter
distinct_filter f [] h = refl
distinct_filter f (n ∷ ns) h =
    let (alone, rest) = distinct_parts n ns h in
    cond_holds (λ l. are_distinct l ≡ true) (f n)
    (λ _. and_both (ap not (unlisted_filter n f ns alone)) (distinct_filter f ns rest))
    (λ _. distinct_filter f ns rest)

pub distinct_append :
    (ns : List ℕ) (n : ℕ) → are_distinct ns ≡ true → any (eqb n) ns ≡ false → are_distinct (ns ++ (n ∷ [])) ≡ true
unfolding are_distinct any
distinct_append [] n h none = refl
distinct_append (m ∷ ns) n h none =
    let (alone, rest) = distinct_parts m ns h in
    let (other, later) = or_neither (eqb n m) (any (eqb n) ns) none in
    let apart : any (eqb m) (ns ++ (n ∷ [])) ≡ false =
    any_append (eqb m) ns (n ∷ []) ∙ rw (alone, ne_eqb m n (λ z. eqb-false n m other (sym z))) in
    and_both (ap not apart) (distinct_append ns n rest later)

-- ---- how many they are

filter_all : (n : ℕ) (ns : List ℕ) → any (eqb n) ns ≡ false → filter (λ x. not (eqb n x)) ns ≡ ns
unfolding filter any
filter_all n [] none = refl
filter_all n (m ∷ ns) none =
    let (other, later) = or_neither (eqb n m) (any (eqb n) ns) none in
    rw (other, filter_all n ns later)

-- taking one number out takes out one at most
length_without :
    (n : ℕ) (ns : List ℕ) → are_distinct ns ≡ true → length ns ≤ suc (length (filter (λ x. not (eqb n x)) ns))
unfolding filter
length_without n [] h = omega arith
length_without n (m ∷ ns) h =
    let (alone, rest) = distinct_parts m ns h in
    by_first (eqb n m) refl alone (length_without n ns rest)
  where
    others : List ℕ
    others = filter (λ x. not (eqb n x)) ns

    by_first :
        (b : Bool) → eqb n m ≡ b → any (eqb m) ns ≡ false → length ns ≤ suc (length others) →
        suc (length ns) ≤ suc (length (cond (not b) (m ∷ others) others))
    by_first true same alone most =
        let here : n ≡ m = eqb-true n m same in
        rw (filter_all n ns (rw here alone)) (omega arith)
    by_first false other alone most = omega arith

-- distinct numbers from 1 to a bound are no more than the bound
pub pigeonhole :
    (most : ℕ) (ns : List ℕ) → are_distinct ns ≡ true → ((x : ℕ) → any (eqb x) ns ≡ true → (1 ≤ x) × (x ≤ most)) →
    length ns ≤ most
unfolding any
pigeonhole zero [] h within = omega arith
pigeonhole zero (n ∷ ns) h within = absurd (omega (arith, within n (or_inl _ (eq-eqb n n refl))))
pigeonhole (suc most) ns h within =
    let others = filter (λ x. not (eqb (suc most) x)) ns in
    omega (arith, length_without (suc most) ns h, pigeonhole most others (distinct_filter _ ns h) lower)
  where
    never : (b : Bool) → (not b && b) ≡ false
    never true = refl
    never false = refl

    lower : (x : ℕ) → any (eqb x) (filter (λ y. not (eqb (suc most) y)) ns) ≡ true → (1 ≤ x) × (x ≤ most)
    lower x kept =
        let both : any (λ y. not (eqb (suc most) y) && eqb x y) ns ≡ true = sym (any_filter (eqb x) (λ y. not (eqb (suc most) y)) ns) ∙ kept in
        let listed = within x (any_weaker _ (eqb x) (λ y h. and_right (not (eqb (suc most) y)) (eqb x y) h) ns both) in
        let other : x ≢ suc most =
        (λ z. not_both both (any_none _ (λ y. rw z (never (eqb (suc most) y))) ns)) in
        omega (arith, listed, other)
