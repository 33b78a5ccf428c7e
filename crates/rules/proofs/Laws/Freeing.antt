-- RULES 1.11: what follows where a record isn't needed, and that a start gives the lowest free number. Assumes nothing.
use Prim.Native.Nat.{ℕ, zero, suc, ◌+◌, ◌≤◌, ◌<◌}
use native.Mathlib.Omega.{arith}
use native.Mathlib.Decide.{ℕ_discrete}
use mathlib.Core.Path.{◌≡◌, refl, sym, ◌∙◌}
use mathlib.Core.Logic.{◌⊎◌, inl, inr, ⊎_elim, ⊎_map, ◌≢◌}
use mathlib.Core.Bool.{Bool, true, false, not, cond, ◌&&◌, false≢true}
use mathlib.Core.List.{List}
use lib.Dec.{ltb, eqb}
use borrow.Author.Tests.{ltb-true, ltb-false, lt-ltb, le-ltb, eqb-true, eqb-false, not-true}
use Rattle.rules.specs.Range.{up_from}
use Rattle.rules.specs.Card.{account_count, accounts}
use Rattle.rules.specs.Kind.{kind_under}
use Rattle.rules.specs.Table.{most_actions, highest, parent_of, kind_of, end_time, has_read, read_time, is_live, has_end, actions, is_child_of, is_record_of}
use Rattle.rules.specs.Walk.{is_under}
use Rattle.rules.specs.Free.{has_read_before, needs, is_store_or_live, is_needed, is_free, first_free, fresh_number, next_number}
use Rattle.rules.specs.Sound.{IsGiven}
use Rattle.rules.proofs.Laws.Tests.{and_left, and_right, and_both, cond_same, test}
use Rattle.rules.proofs.Laws.Ranges.{Within, any_at, not_any}

-- ---- needed

-- three tests, each asked where the one before holds
all_hold : {a b c : Bool} → a ≡ true → b ≡ true → c ≡ true → cond a (cond b c false) false ≡ true
all_hold p q r = rw (p, q, r)

module _ (w : List ℕ) where
  none_before :
      (h t x : ℕ) → ((k : ℕ) → k < account_count → has_read w x k ≡ true → t ≤ read_time w h x k) →
      has_read_before w h t x ≡ false
  unfolding has_read_before accounts
  none_before h t x later = not_any _ 0 account_count (λ k r. by_read k (omega (arith, r)) (has_read w x k) refl)
    where
      by_read : (k : ℕ) → k < account_count → (b : Bool) → has_read w x k ≡ b → (b && ltb (read_time w h x k) t) ≡ false
      by_read k account true has = le-ltb _ _ (later k account has)
      by_read k account false unread = refl

  -- an action whose reads are all of the time at which a record ended, or later, doesn't need the record
  pub later_reads_need_nothing :
      (m x : ℕ) → ((k : ℕ) → k < account_count → has_read w x k ≡ true → end_time w m ≤ read_time w (kind_of w m) x k) →
      needs w m x ≡ false
  unfolding needs
  later_reads_need_nothing m x later = rw (none_before (kind_of w m) (end_time w m) x later) (cond_same (is_live w x) false)

  read_before :
      (h t x k : ℕ) → k < account_count → has_read w x k ≡ true → read_time w h x k < t → has_read_before w h t x ≡ true
  unfolding has_read_before accounts
  read_before h t x k account has before =
      any_at _ 0 account_count k (omega arith) (and_both has (lt-ltb _ _ before))

  -- a live action below Q that has read, whatever the account, before the end of a record of Q needs the record
  pub record_needed :
      (Q m x k : ℕ) → is_record_of w Q m ≡ true → is_store_or_live w Q ≡ true → IsGiven w x → is_live w x ≡ true →
      is_under w Q x ≡ true → k < account_count → has_read w x k ≡ true → read_time w (kind_under Q) x k < end_time w m →
      is_needed w m ≡ true
  unfolding is_needed needs is_record_of actions
  record_needed Q m x k is held given alive under account has before =
      let parent : parent_of w m ≡ Q = eqb-true _ _ (and_left (is_child_of w Q m) (has_end w m) is) in
      let early : has_read_before w (kind_of w m) (end_time w m) x ≡ true =
      rw parent (read_before (kind_under Q) (end_time w m) x k account has before) in
      let below : is_under w (parent_of w m) x ≡ true = rw parent under in
      let kept : is_store_or_live w (parent_of w m) ≡ true = rw parent held in
      rw (and_right (is_child_of w Q m) (has_end w m) is, kept)
      (any_at _ 1 (highest w) x (omega arith) (all_hold alive early below))

-- ---- free

-- Number n may be given: it is one of the table's, at most one above the highest, and where it has been given before its action
-- has finished and is no record that is needed.
pub record Givable (w : List ℕ) (n : ℕ) : Type 0 where
  pub first : 1 ≤ n
  pub few : n ≤ most_actions
  pub near : n ≤ highest w + 1
  pub idle : n ≤ highest w → is_live w n ≡ false
  pub unneeded : n ≤ highest w → is_needed w n ≡ false

module _ (w : List ℕ) where
  free_facts : (m : ℕ) → is_free w m ≡ true → (is_live w m ≡ false) × (is_needed w m ≡ false)
  unfolding is_free
  free_facts m free = by_life (is_live w m) free
    where
      by_life : (b : Bool) → cond b false (not (is_needed w m)) ≡ true → (b ≡ false) × (is_needed w m ≡ false)
      by_life true never = absurd (false≢true never)
      by_life false unneeded = (refl, not-true _ unneeded)

  -- m is the first free number of a run, or 0 where none is
  record IsFirstFree (a n m : ℕ) : Type 0 where
    free : m ≢ 0 → Within a n m × (is_free w m ≡ true)
    lower : (x : ℕ) → Within a n x → x < m ⊎ (m ≡ 0) → is_free w x ≡ false

  first_free_is : (a n : ℕ) → 1 ≤ a → IsFirstFree a n (first_free w (up_from a n))
  unfolding first_free up_from
  first_free_is a zero one = record { free = λ ne. absurd (ne refl); lower = λ x h. absurd (omega arith) }
  first_free_is a (suc n) one = by_first (is_free w a) refl (first_free_is (suc a) n (omega arith))
    where
      by_first :
          (b : Bool) → is_free w a ≡ b → {m : ℕ} → IsFirstFree (suc a) n m → IsFirstFree a (suc n) (cond b a m)
      by_first true is rest =
          record { free = λ _. (omega arith, is); lower = λ x h. ⊎_elim (λ less. absurd (omega arith)) (λ z. absurd (omega arith)) }
      by_first false is {m} rest =
          record {
            free = λ ne. let (within, free) = rest.free ne in (omega arith, free);
            lower = λ x h before. by_place x h before (ℕ_discrete x a);
          }
        where
          by_place : (x : ℕ) → Within a (suc n) x → x < m ⊎ (m ≡ 0) → Dec (x ≡ a) → is_free w x ≡ false
          by_place x h before (yes e) = rw e is
          by_place x h before (no ne) = rest.lower x (omega arith) before

  lowest : IsFirstFree 1 (highest w) (first_free w (actions w))
  unfolding actions
  lowest = first_free_is 1 (highest w) (omega arith)

  -- what a start gives: a number given before that is free, or the one after the highest, or none
  next_cases :
      ((next_number w ≡ first_free w (actions w)) × (first_free w (actions w) ≢ 0))
      ⊎ ((first_free w (actions w) ≡ 0) × (next_number w ≡ fresh_number w))
  unfolding next_number
  next_cases =
      ⊎_elim
      (λ none. inr (eqb-true _ _ none, rw none))
      (λ some. inl (rw some refl, eqb-false _ _ some))
      (test (eqb (first_free w (actions w)) 0))

  fresh_cases : ((highest w < most_actions) × (fresh_number w ≡ highest w + 1)) ⊎ ((most_actions ≤ highest w) × (fresh_number w ≡ 0))
  unfolding fresh_number
  fresh_cases =
      ⊎_elim
      (λ room. inl (ltb-true _ _ room, rw room))
      (λ full. inr (ltb-false _ _ full, rw full))
      (test (ltb (highest w) most_actions))

  given_givable : highest w ≤ most_actions → (m : ℕ) → Within 1 (highest w) m → is_free w m ≡ true → Givable w m
  given_givable few m h free =
      let (idle, unneeded) = free_facts m free in
      record { first = omega arith; few = omega arith; near = omega arith; idle = λ _. idle; unneeded = λ _. unneeded }

  fresh_givable : highest w < most_actions → Givable w (highest w + 1)
  fresh_givable room =
      record {
        first = omega arith;
        few = omega arith;
        near = omega arith;
        idle = λ given. absurd (omega arith);
        unneeded = λ given. absurd (omega arith);
      }

  -- RULES 2.2: what a start gives may be given
  pub next_givable : highest w ≤ most_actions → next_number w ≢ 0 → Givable w (next_number w)
  next_givable few some =
      ⊎_elim
      (λ (is, ne). let (within, free) = lowest.free ne in rw is (given_givable few _ within free))
      (λ (none, is).
      ⊎_elim
      (λ (room, fresh). rw (is, fresh) (fresh_givable room))
      (λ (full, fresh). absurd (some (is ∙ fresh)))
      fresh_cases)
      next_cases

  -- no lower number is free, and where there is none to give, none is
  pub next_lowest : (x : ℕ) → IsGiven w x → (x < next_number w) ⊎ (next_number w ≡ 0) → is_free w x ≡ false
  next_lowest x given before =
      ⊎_elim
      (λ (is, ne). lowest.lower x (omega arith) (⊎_map (λ less. rw is at less) (λ z. sym is ∙ z) before))
      (λ (none, is). lowest.lower x (omega arith) (inr none))
      next_cases

  -- .. and every number has been given
  pub none_left : next_number w ≡ 0 → most_actions ≤ highest w
  none_left none =
      ⊎_elim
      (λ (is, ne). absurd (ne (sym is ∙ none)))
      (λ (_, is). ⊎_elim (λ (room, fresh). absurd (omega (arith, sym is ∙ none, fresh))) (λ (full, _). full) fresh_cases)
      next_cases
