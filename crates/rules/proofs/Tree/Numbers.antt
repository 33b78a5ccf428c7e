-- Numbers added up over a list. Assumes nothing.
use Prim.Native.Nat.{ℕ, zero, suc, ◌+◌}
use native.Mathlib.Omega.{arith}
use native.Mathlib.Nat.{zero-add, add-zero}
use native.Mathlib.Decide.{ℕ_discrete}
use mathlib.Core.Path.{◌≡◌, refl, sym, ap, ap₂, ◌∙◌}
use mathlib.Core.Bool.{Bool, true, false, cond}
use mathlib.Core.List.{List, [], ◌∷◌}
use lib.Dec.{eqb}
use borrow.Author.Tests.{eq-eqb, ne_eqb}
use Rattle.rules.specs.Range.{up_from, count}
use Rattle.rules.proofs.Laws.Tests.{cond_same}
use Rattle.rules.proofs.Laws.Ranges.{Within}

-- what f gives for each of these, added up
unfoldable pub tally : (ℕ → ℕ) → List ℕ → ℕ
tally f [] = 0
tally f (x ∷ xs) = f x + tally f xs

pub tally_agree : (f g : ℕ → ℕ) (a n : ℕ) → ((m : ℕ) → Within a n m → f m ≡ g m) → tally f (up_from a n) ≡ tally g (up_from a n)
unfolding tally up_from
tally_agree f g a zero same = refl
tally_agree f g a (suc n) same = ap₂ ◌+◌ (same a (omega arith)) (tally_agree f g (suc a) n (λ m h. same m (omega arith)))

pub tally_plus : (f g : ℕ → ℕ) (l : List ℕ) → tally (λ m. f m + g m) l ≡ tally f l + tally g l
unfolding tally
tally_plus f g [] = refl
tally_plus f g (x ∷ xs) = omega (arith, tally_plus f g xs)

pub tally_nothing : (f : ℕ → ℕ) → ((m : ℕ) → f m ≡ 0) → (l : List ℕ) → tally f l ≡ 0
unfolding tally
tally_nothing f none [] = refl
tally_nothing f none (x ∷ xs) = omega (arith, none x, tally_nothing f none xs)

-- two sums, one in the other, either way round
pub tally_swap :
    (f : ℕ → ℕ → ℕ) (ps ms : List ℕ) → tally (λ p. tally (f p) ms) ps ≡ tally (λ m. tally (λ p. f p m) ps) ms
unfolding tally
tally_swap f [] ms = sym (tally_nothing (λ m. 0) (λ m. refl) ms)
tally_swap f (p ∷ ps) ms =
    ap (λ z. tally (f p) ms + z) (tally_swap f ps ms) ∙ sym (tally_plus (f p) (λ m. tally (λ q. f q m) ps) ms)

-- what f gives where the number is x, and nothing elsewhere
pub tally_there : (f : ℕ → ℕ) (x a n : ℕ) → Within a n x → tally (λ p. cond (eqb x p) (f p) 0) (up_from a n) ≡ f x
unfolding tally up_from
tally_there f x a zero h = absurd (omega arith)
tally_there f x a (suc n) h = by_place (ℕ_discrete x a) (tally_there f x (suc a) n)
  where
    at_x : ℕ → ℕ
    at_x p = cond (eqb x p) (f p) 0

    nowhere : x ≡ a → tally at_x (up_from (suc a) n) ≡ 0
    nowhere e =
        tally_agree at_x (λ p. 0) (suc a) n (λ p r. rw (ne_eqb x p (λ z. omega arith)))
        ∙ tally_nothing (λ p. 0) (λ p. refl) (up_from (suc a) n)

    by_place :
        Dec (x ≡ a) → (Within (suc a) n x → tally at_x (up_from (suc a) n) ≡ f x) → at_x a + tally at_x (up_from (suc a) n) ≡ f x
    by_place (yes e) later = rw (nowhere e, eq-eqb x a e) (add-zero (f a) ∙ ap f (sym e))
    by_place (no ne) later = rw (later (omega arith), ne_eqb x a ne) (zero-add (f x))

-- ---- of some of them

-- what f gives for each of these of which c holds, added up
unfoldable pub tally_of : (ℕ → Bool) → (ℕ → ℕ) → List ℕ → ℕ
tally_of c f l = tally (λ m. cond (c m) (f m) 0) l

pub tally_of_nothing : (c : ℕ → Bool) (l : List ℕ) → tally_of c (λ m. 0) l ≡ 0
unfolding tally_of
tally_of_nothing c l = tally_nothing _ (λ m. cond_same (c m) 0) l

pub tally_of_none : (c : ℕ → Bool) (f : ℕ → ℕ) (a n : ℕ) → ((m : ℕ) → Within a n m → c m ≡ false) → tally_of c f (up_from a n) ≡ 0
unfolding tally_of
tally_of_none c f a n none = tally_agree _ (λ m. 0) a n (λ m h. rw (none m h)) ∙ tally_nothing (λ m. 0) (λ m. refl) (up_from a n)

pub tally_of_plus : (c : ℕ → Bool) (f g : ℕ → ℕ) (a n : ℕ) → tally_of c (λ m. f m + g m) (up_from a n) ≡ tally_of c f (up_from a n) + tally_of c g (up_from a n)
unfolding tally_of
tally_of_plus c f g a n = tally_agree _ _ a n (λ m h. each (c m) (f m) (g m)) ∙ tally_plus _ _ (up_from a n)
  where
    each : (b : Bool) (x y : ℕ) → cond b (x + y) 0 ≡ cond b x 0 + cond b y 0
    each true x y = refl
    each false x y = refl

-- one for each is how many there are
pub tally_of_ones : (c : ℕ → Bool) (l : List ℕ) → tally_of c (λ m. 1) l ≡ count c l
unfolding tally_of tally count
tally_of_ones c [] = refl
tally_of_ones c (x ∷ xs) = one_more (c x) (tally_of_ones c xs)
  where
    one_more : (b : Bool) {n m : ℕ} → n ≡ m → cond b 1 0 + n ≡ cond b (suc m) m
    one_more true same = omega arith
    one_more false same = omega arith
