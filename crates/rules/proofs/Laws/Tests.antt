-- Tests taken apart and put together. Assumes nothing.
use Prim.Native.Nat.{ℕ, ◌≤◌, ◌<◌}
use native.Mathlib.Omega.{arith}
use mathlib.Core.Path.{◌≡◌, refl, sym, ◌∙◌}
use mathlib.Core.Logic.{◌⊎◌, inl, inr, ◌↔◌}
use mathlib.Core.Bool.{Bool, true, false, not, cond, ◌&&◌, ◌||◌, true≢false, false≢true}
use lib.Dec.{leb, ltb, eqb}
use borrow.Author.Tests.{ltb-false, leb-true, leb-false, eqb-true, eqb-false, not-true, not-false, le-ltb, le-leb, lt-leb, eq-eqb, ne_eqb}

pub and_left : (a b : Bool) → (a && b) ≡ true → a ≡ true
and_left true b h = refl
and_left false b h = h

pub and_right : (a b : Bool) → (a && b) ≡ true → b ≡ true
and_right true b h = h
and_right false b h = absurd (false≢true h)

pub and_both : {a b : Bool} → a ≡ true → b ≡ true → (a && b) ≡ true
and_both {a} {b} p q = rw (p, q)

pub and_true : (a : Bool) → (a && true) ≡ a
and_true true = refl
and_true false = refl

pub and_false : (a : Bool) → (a && false) ≡ false
and_false true = refl
and_false false = refl

pub or_cases : (a b : Bool) → (a || b) ≡ true → (a ≡ true) ⊎ (b ≡ true)
or_cases true b h = inl refl
or_cases false b h = inr h

pub or_inl : {a : Bool} (b : Bool) → a ≡ true → (a || b) ≡ true
or_inl b p = rw p

pub or_inr : (a : Bool) {b : Bool} → b ≡ true → (a || b) ≡ true
or_inr true p = refl
or_inr false p = p

pub or_false : (a : Bool) → (a || false) ≡ a
or_false true = refl
or_false false = refl

pub or_neither : (a b : Bool) → (a || b) ≡ false → (a ≡ false) × (b ≡ false)
or_neither true b h = absurd (true≢false h)
or_neither false b h = (refl, h)

-- `not a || b` is how the definitions say "where a holds, b does"
pub implied : (a b : Bool) → (not a || b) ≡ true → a ≡ true → b ≡ true
implied true b h p = h
implied false b h p = absurd (false≢true p)

pub implies : (a b : Bool) → (a ≡ true → b ≡ true) → (not a || b) ≡ true
implies true b f = f refl
implies false b f = refl

-- a test is one of the two
pub test : (b : Bool) → (b ≡ true) ⊎ (b ≡ false)
test true = inl refl
test false = inr refl

pub not_both : {b : Bool} → b ≡ true → b ≡ false → ⊥
not_both p q = true≢false (sym p ∙ q)

pub false_of_not_true : (b : Bool) → (b ≡ true → ⊥) → b ≡ false
false_of_not_true true h = absurd (h refl)
false_of_not_true false h = refl

-- two tests that hold together are one
pub same_test : (a b : Bool) → (a ≡ true → b ≡ true) → (b ≡ true → a ≡ true) → a ≡ b
same_test true b f g = sym (f refl)
same_test false true f g = g refl
same_test false false f g = refl

-- what holds of either outcome where it is chosen holds of the choice
pub cond_holds :
    {A : Type 0} (P : A → Type 0) (b : Bool) {x y : A} → (b ≡ true → P x) → (b ≡ false → P y) → P (cond b x y)
cond_holds P true p q = p refl
cond_holds P false p q = q refl

-- where both outcomes are the same the test makes no difference
pub cond_same : {A : Type 0} (b : Bool) (x : A) → cond b x x ≡ x
cond_same true x = refl
cond_same false x = refl

-- ---- what a test says, both ways

pub not_holds : (b : Bool) → (not b ≡ true) ↔ (b ≡ false)
not_holds b = (not-true b, λ p. rw p)

pub not_fails : (b : Bool) → (not b ≡ false) ↔ (b ≡ true)
not_fails b = (not-false b, λ p. rw p)

pub and_holds : (a b : Bool) → ((a && b) ≡ true) ↔ ((a ≡ true) × (b ≡ true))
and_holds a b = (λ h. (and_left a b h, and_right a b h), λ h. and_both h.0 h.1)

pub and_fails : (a b : Bool) → ((a && b) ≡ false) ↔ (a ≡ true → b ≡ false)
and_fails true b = (λ h p. h, λ f. f refl)
and_fails false b = (λ h p. absurd (false≢true p), λ f. refl)

pub and_fails_left : (a b : Bool) → ((a && b) ≡ false) ↔ (b ≡ true → a ≡ false)
and_fails_left true b = (λ h p. absurd (not_both p h), λ f. false_of_not_true b (λ p. true≢false (f p)))
and_fails_left false b = (λ h p. refl, λ f. refl)

pub or_fails : (a b : Bool) → ((a || b) ≡ false) ↔ ((a ≡ false) × (b ≡ false))
or_fails true b = (λ h. absurd (true≢false h), λ h. h.0)
or_fails false b = (λ h. (refl, h), λ h. h.1)

pub eqb_holds : (m n : ℕ) → (eqb m n ≡ true) ↔ (m ≡ n)
eqb_holds m n = (eqb-true m n, eq-eqb m n)

-- a number that isn't 0
pub nonzero : (n : ℕ) → (eqb n 0 ≡ false) ↔ (1 ≤ n)
nonzero n = (λ h. let ne = eqb-false n 0 h in omega arith, λ h. ne_eqb n 0 (λ z. omega arith))

pub leb_holds : (m n : ℕ) → (leb m n ≡ true) ↔ (m ≤ n)
leb_holds m n = (leb-true m n, le-leb m n)

pub leb_fails : (m n : ℕ) → (leb m n ≡ false) ↔ (n < m)
leb_fails m n = (leb-false m n, lt-leb m n)

pub ltb_fails : (m n : ℕ) → (ltb m n ≡ false) ↔ (n ≤ m)
ltb_fails m n = (ltb-false m n, le-ltb m n)
