-- The first of some pairs, each an end time and an account: what it is, that there is at most one, and how one more pair changes
-- it. Assumes nothing.
use Prim.Native.Nat.{ℕ, ◌≤◌, ◌<◌}
use native.Mathlib.Omega.{arith}
use mathlib.Core.Path.{◌≡◌, refl, ap₂}
use mathlib.Core.Logic.{◌↔◌, ◌⊎◌, inl, inr, ⊎_elim}
use mathlib.Core.Bool.{true, false, ◌&&◌}
use lib.Dec.{ltb, leb, eqb}
use borrow.Author.Tests.{ltb-true, ltb-false, leb-true, leb-false, eqb-true, eqb-false}
use Rattle.rules.specs.declared.Found.{Found}
use Rattle.std.specs.Prelude.{Option, None}
use Rattle.rules.specs.Found.{found_at}
use Rattle.rules.specs.Clash.{is_before, earlier}
use Rattle.rules.proofs.Laws.Tests.{and_left, and_right, or_cases, or_neither, test}

-- ---- their order

-- (t, k) comes before (u, l) or is the same: what the test `is_before` says
abbrev pub Before : ℕ → ℕ → ℕ → ℕ → Type 0
Before t k u l = (t < u) ⊎ ((t ≡ u) × (k ≤ l))

is_before_true : (t k u l : ℕ) → is_before t k u l ≡ true → Before t k u l
is_before_true t k u l h =
    ⊎_elim
    (λ p. inl (ltb-true t u p))
    (λ p. inr (eqb-true t u (and_left (eqb t u) (leb k l) p), leb-true k l (and_right (eqb t u) (leb k l) p)))
    (or_cases (ltb t u) (eqb t u && leb k l) h)

is_before_false : (t k u l : ℕ) → is_before t k u l ≡ false → Before u l t k
is_before_false t k u l h =
    let neither = or_neither (ltb t u) (eqb t u && leb k l) h in
    ⊎_elim
    (λ e. inr (omega (arith, eqb-true t u e, leb-false k l (rw e at neither.1))))
    (λ e. inl (omega (arith, ltb-false t u neither.0, eqb-false t u e)))
    (test (eqb t u))

before_trans : {t k u l v o : ℕ} → Before t k u l → Before u l v o → Before t k v o
before_trans (inl p) (inl q) = inl (omega arith)
before_trans (inl p) (inr q) = inl (omega arith)
before_trans (inr p) (inl q) = inl (omega arith)
before_trans (inr p) (inr q) = inr (omega arith)

before_antisym : {t k u l : ℕ} → Before t k u l → Before u l t k → (t ≡ u) × (k ≡ l)
before_antisym (inl p) (inl q) = absurd (omega arith)
before_antisym (inl p) (inr q) = absurd (omega arith)
before_antisym (inr p) (inl q) = absurd (omega arith)
before_antisym (inr p) (inr q) = omega arith

-- ---- the first of those with P

abbrev pub Pairs : Type 1
Pairs = ℕ → ℕ → Type 0

pub record IsFirstPair (P : Pairs) (t k : ℕ) : Type 0 where
  pub has : P t k
  pub first : (u l : ℕ) → P u l → Before t k u l

-- f names it, or says that there is none
pub data FindsPair (P : Pairs) : Option Found → Type 0 where
  no_pair : ((t k : ℕ) → P t k → ⊥) → FindsPair P None
  pair_at : {t k : ℕ} → IsFirstPair P t k → FindsPair P (found_at t k)

module _ {P : Pairs} where
  -- there is at most one first
  pub pair_once : {f g : Option Found} → FindsPair P f → FindsPair P g → f ≡ g
  pair_once (no_pair p) (no_pair q) = refl
  pair_once (no_pair p) (pair_at q) = absurd (p _ _ q.has)
  pair_once (pair_at p) (no_pair q) = absurd (q _ _ p.has)
  pair_once (pair_at p) (pair_at q) =
      let same = before_antisym (p.first _ _ q.has) (q.first _ _ p.has) in ap₂ found_at same.0 same.1

  -- the same pairs have the same first
  pub pair_same : {Q : Pairs} {f : Option Found} → ((t k : ℕ) → P t k ↔ Q t k) → FindsPair P f → FindsPair Q f
  pair_same same (no_pair h) = no_pair (λ t k q. h t k ((same t k).1 q))
  pair_same same (pair_at h) =
      pair_at (record { has = (same _ _).0 h.has; first = λ u l q. h.first u l ((same u l).1 q) })

-- ---- one more

-- (t, k), or a pair with P
abbrev pub OrPair : ℕ → ℕ → Pairs → Pairs
OrPair t k P u l = ((u ≡ t) × (l ≡ k)) ⊎ P u l

module _ {P : Pairs} (t k : ℕ) where
  new_first : ((u l : ℕ) → P u l → Before t k u l) → IsFirstPair (OrPair t k P) t k
  new_first before =
      record { has = inl (refl, refl); first = λ u l. ⊎_elim (λ it. inr (omega arith)) (before u l) }

  old_first : {u l : ℕ} → IsFirstPair P u l → Before u l t k → IsFirstPair (OrPair t k P) u l
  old_first h before =
      record { has = inr h.has; first = λ v o. ⊎_elim (λ it. rw (it.0, it.1) before) (h.first v o) }

  pub earlier_pair : {f : Option Found} → FindsPair P f → FindsPair (OrPair t k P) (earlier t k f)
  earlier_pair (no_pair none) = pair_at (new_first (λ u l p. absurd (none u l p)))
  earlier_pair (pair_at {t = u} {k = l} h) =
      ⊎_elim
      (λ e. rw e (pair_at (new_first (λ v o p. before_trans (is_before_true t k u l e) (h.first v o p)))))
      (λ e. rw e (pair_at (old_first h (is_before_false t k u l e))))
      (test (is_before t k u l))
