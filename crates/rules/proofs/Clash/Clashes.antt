-- The clash list of an action: what is in it, when it is empty, and which of its clashes is the first. Assumes nothing.
use Prim.Native.Nat.{ℕ, ◌≤◌, ◌<◌}
use native.Mathlib.Omega.{arith}
use mathlib.Core.Path.{◌≡◌, refl, sym, ap, ◌∙◌}
use mathlib.Core.Logic.{◌↔◌, inl, inr, ⊎_elim}
use mathlib.Core.Bool.{true, false, ◌&&◌}
use mathlib.Core.List.Memᴰ
use mathlib.Core.List.{List, [], ◌∷◌, Memᴰ}
use borrow.Author.Tests.{le-ltb}
use Rattle.rules.specs.Range.{filter}
use Rattle.rules.specs.Card.{account_count, accounts}
use Rattle.rules.specs.Table.{highest, parent_of, kind_of, end_time, has_read, read_time, has_written, actions, is_record_of, records}
use Rattle.rules.specs.Sound.{IsGiven}
use Rattle.rules.specs.declared.Found.{Found}
use Rattle.std.specs.Prelude.{Option, None}
use Rattle.rules.specs.Found.{found_at}
use Rattle.rules.specs.Clash.{is_clash, Pair, pairs_with, clashes_with, clashes, least, first_clash}
use Rattle.rules.proofs.Laws.Tests.{and_left, and_right, and_false, not_both}
use Rattle.rules.proofs.Laws.Ranges.{filter_only, filter_every}
use Rattle.rules.proofs.Clash.Firsts.{Before, Pairs, FindsPair, no_pair, pair_at, pair_once, pair_same, OrPair, earlier_pair}

-- ---- what is in the list

pub in_records : (w : List ℕ) (p m : ℕ) → Memᴰ m (records w p) ↔ (IsGiven w m × (is_record_of w p m ≡ true))
unfolding records actions
in_records w p m = (
  λ r. let h = filter_only (is_record_of w p) 1 (highest w) m r in (omega arith, h.1),
  λ h. filter_every (is_record_of w p) 1 (highest w) m (omega arith) h.1,
)

pairs_with_only :
    (m : ℕ) (c : Pair) (ks : List ℕ) → Memᴰ c (pairs_with m ks) → (c.holder ≡ m) × Memᴰ c.account ks
unfolding pairs_with
pairs_with_only m c [] p = absurd (Memᴰ.not-nil p)
pairs_with_only m c (k ∷ ks) p =
    ⊎_elim
    (λ e. (ap (λ d. d.holder) e, Memᴰ.head (ap (λ d. d.account) e)))
    (λ r. let h = pairs_with_only m c ks r in (h.0, Memᴰ.tail h.1))
    (Memᴰ.cases_cons p)

pairs_with_every :
    {m : ℕ} (c : Pair) {ks : List ℕ} → c.holder ≡ m → Memᴰ c.account ks → Memᴰ c (pairs_with m ks)
unfolding pairs_with
pairs_with_every c e (Memᴰ.head p) = Memᴰ.head (λ i. record { holder = e i; account = p i })
pairs_with_every c e (Memᴰ.tail r) = Memᴰ.tail (pairs_with_every c e r)

module _ (w : List ℕ) (n : ℕ) where
  -- the accounts at which n clashes with m
  abbrev clashing : ℕ → List ℕ
  clashing m = filter (is_clash w n m) accounts

  clashes_with_only :
      (c : Pair) (ms : List ℕ) → Memᴰ c (clashes_with w n ms) →
      Memᴰ c.holder ms × Memᴰ c.account (clashing c.holder)
  unfolding clashes_with
  clashes_with_only c [] p = absurd (Memᴰ.not-nil p)
  clashes_with_only c (m ∷ ms) p =
      ⊎_elim
      (λ q. let h = pairs_with_only m c (clashing m) q in (Memᴰ.head h.0, rw h.0 h.1))
      (λ r. let h = clashes_with_only c ms r in (Memᴰ.tail h.0, h.1))
      (Memᴰ.append_cases (pairs_with m (clashing m)) p)

  clashes_with_every :
      (c : Pair) {ms : List ℕ} → Memᴰ c.holder ms → Memᴰ c.account (clashing c.holder) →
      Memᴰ c (clashes_with w n ms)
  unfolding clashes_with
  clashes_with_every c (Memᴰ.head e) q = Memᴰ.append_left _ (pairs_with_every c e (rw e at q))
  clashes_with_every c (Memᴰ.tail {x = m} r) q = Memᴰ.append_right (pairs_with m (clashing m)) (clashes_with_every c r q)

-- RULES 4.2: c belongs in n's clash list, as facts
pub record IsClashing (w : List ℕ) (n : ℕ) (c : Pair) : Type 0 where
  pub begun : IsGiven w c.holder
  pub is_record : is_record_of w (parent_of w n) c.holder ≡ true
  pub known : c.account < account_count
  pub clash : is_clash w n c.holder c.account ≡ true

pub in_clashes : (w : List ℕ) (n : ℕ) (c : Pair) → Memᴰ c (clashes w n) ↔ IsClashing w n c
unfolding clashes accounts
in_clashes w n c = (only, every)
  where
    only : Memᴰ c (clashes w n) → IsClashing w n c
    only p =
        let both = clashes_with_only w n c (records w (parent_of w n)) p in
        let holder = (in_records w (parent_of w n) c.holder).0 both.0 in
        let account = filter_only (is_clash w n c.holder) 0 account_count c.account both.1 in
        record { begun = holder.0; is_record = holder.1; known = omega arith; clash = account.1 }

    every : IsClashing w n c → Memᴰ c (clashes w n)
    every h =
        clashes_with_every w n c
        ((in_records w (parent_of w n) c.holder).1 (h.begun, h.is_record))
        (filter_every (is_clash w n c.holder) 0 account_count c.account (omega arith) h.clash)

-- ---- when it is empty

empty_of_no_member : (cs : List Pair) → ((c : Pair) → Memᴰ c cs → ⊥) → cs ≡ []
empty_of_no_member [] h = refl
empty_of_no_member (c ∷ cs) h = absurd (h c (Memᴰ.head refl))

pub clash_was_read : (w : List ℕ) (n m k : ℕ) → is_clash w n m k ≡ true → has_read w n k ≡ true
clash_was_read w n m k h = and_right (has_written w m k) (has_read w n k) (and_left (has_written w m k && has_read w n k) _ h)

-- a read at the time at which the record ended, or later, doesn't clash with it
pub later_read_never_clashes : (w : List ℕ) (n m k : ℕ) → end_time w m ≤ read_time w (kind_of w m) n k → is_clash w n m k ≡ false
later_read_never_clashes w n m k later =
    ap (◌&&◌ (has_written w m k && has_read w n k)) (le-ltb (read_time w (kind_of w m) n k) (end_time w m) later)
    ∙ and_false (has_written w m k && has_read w n k)

-- RULES 4.2: an action that has read nothing never clashes
pub unread_never_clashes :
    (w : List ℕ) (n : ℕ) → ((k : ℕ) → k < account_count → has_read w n k ≡ false) → clashes w n ≡ []
unread_never_clashes w n unread = empty_of_no_member (clashes w n) never
  where
    never : (c : Pair) → Memᴰ c (clashes w n) → ⊥
    never c p =
        let h = (in_clashes w n c).0 p in
        not_both (clash_was_read w n c.holder c.account h.clash) (unread c.account h.known)

-- ---- which of them is first

-- a pair with P has end time t and account k, and it comes before every pair with P
pub record IsFirstOf (w : List ℕ) (P : Pair → Type 0) (t k : ℕ) : Type 0 where
  pub holder : ℕ
  pub listed : P (record { holder = holder; account = k })
  pub time : end_time w holder ≡ t
  pub first : (c : Pair) → P c → Before t k (end_time w c.holder) c.account

-- f names the first of the pairs with P, or says that there is none
pub data Finds (w : List ℕ) (P : Pair → Type 0) : Option Found → Type 0 where
  finds_none : ((c : Pair) → P c → ⊥) → Finds w P None
  finds_at : {t k : ℕ} → IsFirstOf w P t k → Finds w P (found_at t k)

-- the end times and accounts of the pairs with P
abbrev pub TimesOf : List ℕ → (Pair → Type 0) → Pairs
TimesOf w P t k = (holder : ℕ) × P (record { holder = holder; account = k }) × (end_time w holder ≡ t)

module _ {w : List ℕ} {P : Pair → Type 0} where
  nothing_found : Finds w P None → (c : Pair) → P c → ⊥
  nothing_found (finds_none h) = h

  first_found : {t k : ℕ} → Finds w P (found_at t k) → IsFirstOf w P t k
  first_found (finds_at h) = h

  -- as end times and accounts
  finds_pair : {f : Option Found} → Finds w P f → FindsPair (TimesOf w P) f
  finds_pair (finds_none none) = no_pair (λ t k (holder, p, time). none _ p)
  finds_pair (finds_at h) =
      pair_at
      (record {
        has = (h.holder, h.listed, h.time);
        first = λ u l (holder, p, time). rw time at (h.first _ p);
      })

  pair_finds : {f : Option Found} → FindsPair (TimesOf w P) f → Finds w P f
  pair_finds (no_pair none) = finds_none (λ c p. none _ _ (c.holder, p, refl))
  pair_finds (pair_at h) =
      let (holder, p, time) = h.has in
      finds_at (record { holder = holder; listed = p; time = time; first = λ c q. h.first _ _ (c.holder, q, refl) })

  -- there is at most one first
  pub finds_once : {f g : Option Found} → Finds w P f → Finds w P g → f ≡ g
  finds_once p q = pair_once (finds_pair p) (finds_pair q)

  -- the same pairs have the same first
  pub finds_same : {Q : Pair → Type 0} {f : Option Found} → ((c : Pair) → P c ↔ Q c) → Finds w P f → Finds w Q f
  finds_same same (finds_none h) = finds_none (λ c q. h c ((same c).1 q))
  finds_same same (finds_at h) =
      finds_at
      (record { holder = h.holder; listed = (same _).0 h.listed; time = h.time; first = λ c q. h.first c ((same c).1 q) })

module _ (w : List ℕ) where
  -- the end times and accounts of a list of pairs
  abbrev TimesIn : List Pair → Pairs
  TimesIn cs = TimesOf w (λ c. Memᴰ c cs)

  first_or_later :
      (c : Pair) (cs : List Pair) (t k : ℕ) → OrPair (end_time w c.holder) c.account (TimesIn cs) t k ↔ TimesIn (c ∷ cs) t k
  first_or_later c cs t k = (
    ⊎_elim
        (λ it. (c.holder, Memᴰ.head (λ i. record { holder = c.holder; account = it.1 i }), sym it.0))
        (λ (holder, r, time). (holder, Memᴰ.tail r, time)),
    λ (holder, r, time).
        ⊎_elim
        (λ e. inl (sym time ∙ ap (λ d. end_time w d.holder) e, ap (λ d. d.account) e))
        (λ later. inr (holder, later, time))
        (Memᴰ.cases_cons r),
  )

  pub least_pair : (cs : List Pair) → FindsPair (TimesIn cs) (least w cs)
  unfolding least
  least_pair [] = no_pair (λ t k (holder, r, time). Memᴰ.not-nil r)
  least_pair (c ∷ cs) = pair_same (first_or_later c cs) (earlier_pair _ _ (least_pair cs))

-- t and k are the end time and the account of the first pair of n's clash list
abbrev pub IsFirst : List ℕ → ℕ → ℕ → ℕ → Type 0
IsFirst w n t k = IsFirstOf w (λ c. Memᴰ c (clashes w n)) t k

module _ (w : List ℕ) (n : ℕ) where
  pub first_clash_finds : Finds w (λ c. Memᴰ c (clashes w n)) (first_clash w n)
  unfolding first_clash
  first_clash_finds = pair_finds (least_pair w (clashes w n))

  pub first_clash_at : (t k : ℕ) → (first_clash w n ≡ found_at t k) ↔ IsFirst w n t k
  first_clash_at t k = (λ e. first_found (rw e at first_clash_finds), λ h. finds_once first_clash_finds (finds_at h))

  pub first_clash_none : (first_clash w n ≡ None) ↔ (clashes w n ≡ [])
  unfolding first_clash least
  first_clash_none = (λ e. empty_of_no_member (clashes w n) (nothing_found (rw e at first_clash_finds)), λ e. rw e)
