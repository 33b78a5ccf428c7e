-- The records of a parent by rising end time: the next after a time, and how many there are behind it. Assumes nothing.
use Prim.Native.Nat.{ℕ, ◌≤◌, ◌<◌}
use native.Mathlib.Nat.{le_refl}
use native.Mathlib.Omega.{arith}
use mathlib.Core.Path.{◌≡◌, refl, sym, ap, ◌∙◌}
use mathlib.Core.Logic.{◌≢◌, ◌⊎◌, inl, inr, ⊎_elim}
use mathlib.Core.Bool.{Bool, true, false, cond, ◌&&◌}
use mathlib.Core.List.Memᴰ
use mathlib.Core.List.{List, [], ◌∷◌, Memᴰ}
use lib.Dec.{ltb}
use borrow.Author.Tests.{ltb-true, ltb-false, lt-ltb, le-ltb, eqb-true, eq-eqb, ne_eqb}
use Rattle.rules.specs.Range.{count}
use Rattle.rules.specs.Kind.{kind_under}
use Rattle.rules.specs.Table.{has_end, highest, counter, parent_of, end_time, is_committed, actions, is_child_of, is_record_of, records}
use Rattle.rules.specs.Sound.{IsGiven, StoreOrLive, Sound}
use Rattle.rules.specs.Search.{next_after}
use Rattle.rules.proofs.Laws.Tests.{and_left, and_right, and_both, and_false, test}
use Rattle.rules.proofs.Laws.Ranges.{any_at, count_at_most, count_some, count_fewer}
use Rattle.rules.proofs.Sound.TableChanges.{live_uncommitted}
use Rattle.rules.proofs.Clash.Clashes.{in_records}

-- ---- the next record

-- of the actions ms, m has the smallest end time above t
pub record IsNext (w : List ℕ) (t : ℕ) (ms : List ℕ) (m : ℕ) : Type 0 where
  pub member : Memᴰ m ms
  pub above : t < end_time w m
  pub soonest : (x : ℕ) → Memᴰ x ms → t < end_time w x → end_time w m ≤ end_time w x

-- m is 0, and none of the actions ms has an end time above t
abbrev pub NoneAfter : List ℕ → ℕ → List ℕ → ℕ → Type 0
NoneAfter w t ms m = (m ≡ 0) × ((x : ℕ) → Memᴰ x ms → end_time w x ≤ t)

module _ (w : List ℕ) (t : ℕ) where
  head_next :
      (m : ℕ) (ms : List ℕ) → t < end_time w m →
      ((x : ℕ) → Memᴰ x ms → t < end_time w x → end_time w m ≤ end_time w x) → IsNext w t (m ∷ ms) m
  head_next m ms above soonest =
      record {
        member = Memᴰ.head refl;
        above = above;
        soonest = λ x r later.
            ⊎_elim (λ e. omega (arith, ap (end_time w) e)) (λ q. soonest x q later) (Memᴰ.cases_cons r);
      }

  tail_next :
      (m : ℕ) (ms : List ℕ) {next : ℕ} → IsNext w t ms next → (t < end_time w m → end_time w next ≤ end_time w m) →
      IsNext w t (m ∷ ms) next
  tail_next m ms is sooner =
      record {
        member = Memᴰ.tail is.member;
        above = is.above;
        soonest = λ x r later.
            ⊎_elim (λ e. rw e (sooner (rw e at later))) (λ q. is.soonest x q later) (Memᴰ.cases_cons r);
      }

  sooner_next :
      (m : ℕ) (ms : List ℕ) {next : ℕ} → t < end_time w m → IsNext w t ms next →
      IsNext w t (m ∷ ms) (cond (ltb (end_time w m) (end_time w next)) m next)
  sooner_next m ms {next} above is =
      ⊎_elim
      (λ e. rw e (head_next m ms above (λ x r later. omega (arith, ltb-true, is.soonest x r later))))
      (λ e. rw e (tail_next m ms is (λ h. omega (arith, ltb-false))))
      (test (ltb (end_time w m) (end_time w next)))

  -- 0 says that there is none, so it must not be one of the actions
  pub next_after_finds :
      (ms : List ℕ) → ((x : ℕ) → Memᴰ x ms → 1 ≤ x) →
      NoneAfter w t ms (next_after w t ms) ⊎ IsNext w t ms (next_after w t ms)
  unfolding next_after
  next_after_finds [] positive = inl (refl, λ x r. absurd (Memᴰ.not-nil r))
  next_after_finds (m ∷ ms) positive =
      go (test (ltb t (end_time w m))) (next_after_finds ms (λ x r. positive x (Memᴰ.tail r)))
    where
      next : ℕ
      next = next_after w t ms

      go :
          (ltb t (end_time w m) ≡ true) ⊎ (ltb t (end_time w m) ≡ false) → NoneAfter w t ms next ⊎ IsNext w t ms next →
          NoneAfter w t (m ∷ ms) (next_after w t (m ∷ ms)) ⊎ IsNext w t (m ∷ ms) (next_after w t (m ∷ ms))
      go (inl e) (inl empty) =
          rw (e, eq-eqb next 0 empty.0)
          (inr (head_next m ms (ltb-true _ _ e) (λ x r later. absurd (omega (arith, empty.1 x r)))))
      go (inl e) (inr is) =
          rw (e, ne_eqb next 0 (λ z. omega (arith, positive next (Memᴰ.tail is.member))))
          (inr (sooner_next m ms (ltb-true _ _ e) is))
      go (inr e) (inl empty) =
          rw e
          (inl (
            empty.0,
            λ x r. ⊎_elim (λ q. omega (arith, ltb-false, ap (end_time w) q)) (empty.1 x) (Memᴰ.cases_cons r),
          ))
      go (inr e) (inr is) = rw e (inr (tail_next m ms is (λ h. absurd (omega (arith, ltb-false)))))

-- ---- the records of a parent

pub record_parent : (w : List ℕ) (p m : ℕ) → is_record_of w p m ≡ true → parent_of w m ≡ p
unfolding is_record_of
record_parent w p m h =
    eqb-true (parent_of w m) p (and_left (is_child_of w p m) (has_end w m) h)

pub record_has_end : (w : List ℕ) (p m : ℕ) → is_record_of w p m ≡ true → has_end w m ≡ true
unfolding is_record_of
record_has_end w p m h = and_right (is_child_of w p m) (has_end w m) h

-- no two records of p end at one time
abbrev pub RecordsApart : List ℕ → ℕ → Type 0
RecordsApart w p = (m x : ℕ) → Memᴰ m (records w p) → Memᴰ x (records w p) → end_time w x ≡ end_time w m → x ≡ m

-- a record of the store or of a live action is not its own parent: it has committed, and isn't the store
record_other : (w : List ℕ) (p m : ℕ) → StoreOrLive w p → IsGiven w m → is_record_of w p m ≡ true → parent_of w m ≢ m
record_other w p m from begun is own =
    let same : m ≡ p = sym own ∙ record_parent w p m is in
    live_uncommitted w m (rw same (from.1 (omega arith))) (and_left (is_committed w m) _ (record_has_end w p m is))

pub sound_apart : {w : List ℕ} → Sound w → (p : ℕ) → StoreOrLive w p → RecordsApart w p
sound_apart {w} s p from m x a b e =
    let hm = (in_records w p m).0 a in
    let hx = (in_records w p x).0 b in
    s.alone m x hm.0 hx.0 (record_has_end w p m hm.1) (record_has_end w p x hx.1)
    (record_other w p m from hm.0 hm.1) (record_other w p x from hx.0 hx.1)
    (record_parent w p x hx.1 ∙ sym (record_parent w p m hm.1))
    e

-- no record has the number 0
pub positive : (w : List ℕ) (p x : ℕ) → Memᴰ x (records w p) → 1 ≤ x
positive w p x r = ((in_records w p x).0 r).0.0

-- in a sound table the next record is an action of the table, and ends above t and within the counter of its kind
pub next_given :
    {w : List ℕ} → Sound w → (p t m : ℕ) → m ≡ next_after w t (records w p) → m ≢ 0 →
    IsGiven w m × (t < end_time w m) × (end_time w m ≤ counter w (kind_under p))
next_given {w} s p t m e ne =
    ⊎_elim
    (λ empty. absurd (ne (e ∙ empty.0)))
    (λ is.
    let next = (in_records w p (next_after w t (records w p))).0 is.member in
    let in_time = rw (record_parent w p _ next.1) at (s.ends _ next.0 (record_has_end w p _ next.1)).1 in
    rw e (next.0, is.above, in_time))
    (next_after_finds w t (records w p) (positive w p))

-- ---- how many records there are behind a time

-- m is a record of p and ends above t
abbrev is_later : List ℕ → ℕ → ℕ → ℕ → Bool
is_later w p t m = is_record_of w p m && ltb t (end_time w m)

-- how many such records there are
pub later : List ℕ → ℕ → ℕ → ℕ
later w p t = count (is_later w p t) (actions w)

module _ (w : List ℕ) (p : ℕ) where
  pub later_at_most : (t : ℕ) → later w p t ≤ highest w
  unfolding later actions
  later_at_most t = count_at_most (is_later w p t) 1 (highest w)

  record_later : (t m : ℕ) → Memᴰ m (records w p) → t < end_time w m → is_later w p t m ≡ true
  record_later t m r above = and_both ((in_records w p m).0 r).1 (lt-ltb _ _ above)

  pub none_later : (t m : ℕ) → later w p t ≡ 0 → Memᴰ m (records w p) → t < end_time w m → ⊥
  unfolding later actions
  none_later t m none r above =
      let begun = ((in_records w p m).0 r).0 in
      omega (arith, count_some (is_later w p t) _ (any_at (is_later w p t) 1 (highest w) m (omega arith) (record_later t m r above)))

  -- behind a record that ends above t there is one fewer, at least
  pub fewer_later : (t m : ℕ) → Memᴰ m (records w p) → t < end_time w m → later w p (end_time w m) < later w p t
  unfolding later actions
  fewer_later t m r above =
      let begun = ((in_records w p m).0 r).0 in
      count_fewer (is_later w p t) (is_later w p (end_time w m)) 1 (highest w) m (omega arith)
      (record_later t m r above)
      (rw (le-ltb (end_time w m) (end_time w m) (le_refl _)) (and_false (is_record_of w p m)))
      (λ y _ q.
      and_both (and_left (is_record_of w p y) _ q)
      (lt-ltb t (end_time w y) (omega (arith, above, ltb-true (end_time w m) (end_time w y) (and_right (is_record_of w p y) _ q)))))
