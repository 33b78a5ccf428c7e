-- The search of specs/Search.antt, record by record and account by account, finds the clash that a commit answers.
-- Assumes nothing.
use Prim.Native.Nat.{ℕ, zero, suc, ◌-◌, ◌≤◌, ◌<◌}
use native.Mathlib.Omega.{arith}
use native.Mathlib.Decide.{ℕ_discrete}
use mathlib.Core.Path.{◌≡◌, refl, sym, ap, ◌∙◌}
use mathlib.Core.Logic.{◌↔◌, ◌≢◌, ◌⊎◌, inl, inr, ⊎_elim, ⊎_map}
use mathlib.Core.Bool.{true, false, cond, ◌&&◌}
use mathlib.Core.List.{List, Memᴰ}
use lib.Dec.{ltb, eqb}
use borrow.Author.Tests.{ltb-true, eq-eqb, ne_eqb}
use Rattle.rules.specs.Range.{up_from}
use Rattle.rules.specs.Card.{account_count, accounts}
use Rattle.rules.specs.Table.{most_actions, highest, parent_of, kind_of, end_time, has_read, read_time, has_written, is_live, is_record_of, records}
use Rattle.rules.specs.Sound.{IsGiven, Sound}
use Rattle.rules.specs.declared.Found.{Found}
use Rattle.std.specs.Prelude.{Option, None}
use Rattle.rules.specs.Clash.{is_clash, Pair, first_clash}
use Rattle.rules.specs.Search.{next_after, search_accounts, search_records, search}
use Rattle.rules.proofs.Laws.Tests.{and_right, test, not_both}
use Rattle.rules.proofs.Laws.Ranges.{Within}
use Rattle.rules.proofs.Laws.Walking.{parent_store_or_live}
use Rattle.rules.proofs.Clash.Clashes.{in_records, IsClashing, in_clashes, clash_was_read, IsFirstOf, Finds, finds_none, finds_at, finds_once, finds_same, first_clash_finds}
use Rattle.rules.proofs.Clash.Records.{record_parent, IsNext, NoneAfter, next_after_finds, RecordsApart, sound_apart, positive, later, later_at_most, none_later, fewer_later}

-- ---- the accounts of one record

module _ (w : List ℕ) (n m : ℕ) where
  -- c is a clash with m, at one of the j accounts from a on
  abbrev ClashWith : ℕ → ℕ → Pair → Type 0
  ClashWith a j c = (c.holder ≡ m) × Within a j c.account × (is_clash w n m c.account ≡ true)

  -- with no clash at a, those from a on are those behind a
  clash_behind : (a j : ℕ) → is_clash w n m a ≡ false → (c : Pair) → ClashWith (suc a) j c ↔ ClashWith a (suc j) c
  clash_behind a j e c = (λ h. (h.0, omega arith, h.2), behind)
    where
      behind : ClashWith a (suc j) c → ClashWith (suc a) j c
      behind h =
          let other : c.account ≢ a = λ z. not_both h.2 (rw z e) in
          (h.0, omega arith, h.2)

  -- Q stands for the clashes with the records after m
  module _ {Q : Pair → Type 0} (later : (c : Pair) → Q c → end_time w m < end_time w c.holder) where
    clash_here_first : (a j : ℕ) → is_clash w n m a ≡ true → IsFirstOf w (λ c. ClashWith a (suc j) c ⊎ Q c) (end_time w m) a
    clash_here_first a j e =
        record {
          holder = m;
          listed = inl (refl, omega arith, e);
          time = refl;
          first = λ c. ⊎_elim (λ r. inr (ap (end_time w) (sym r.0), omega arith)) (λ q. inl (later c q));
        }

    -- where `rest` finds the first of those with Q, the search finds the first of those with m and of those with Q
    search_accounts_finds :
        {rest : Option Found} → Finds w Q rest → (a j : ℕ) →
        Finds w (λ c. ClashWith a j c ⊎ Q c) (search_accounts w n m rest (up_from a j))
    unfolding search_accounts up_from
    search_accounts_finds found a zero = finds_same (λ c. (inr, ⊎_elim (λ r. absurd (omega arith)) (λ q. q))) found
    search_accounts_finds found a (suc j) =
        ⊎_elim
        (λ e. rw e (finds_at (clash_here_first a j e)))
        (λ e. rw e (finds_same (behind e) (search_accounts_finds found (suc a) j)))
        (test (is_clash w n m a))
      where
        behind : is_clash w n m a ≡ false → (c : Pair) → (ClashWith (suc a) j c ⊎ Q c) ↔ (ClashWith a (suc j) c ⊎ Q c)
        behind e c = (⊎_map (clash_behind a j e c).0 (λ q. q), ⊎_map (clash_behind a j e c).1 (λ q. q))

-- ---- the clashes behind a time

-- c is a clash of n, with an end time above t
abbrev ClashAfter : List ℕ → ℕ → ℕ → Pair → Type 0
ClashAfter w n t c = IsClashing w n c × (t < end_time w c.holder)

-- the search of the records with end times above t: as many rounds as there can be actions are enough at any t
abbrev pub search_after : List ℕ → ℕ → ℕ → Option Found
search_after w n t = search_records w n most_actions t

clash_record : (w : List ℕ) (n : ℕ) (c : Pair) → IsClashing w n c → Memᴰ c.holder (records w (parent_of w n))
clash_record w n c h = (in_records w (parent_of w n) c.holder).1 (h.begun, h.is_record)

-- what the search asks of the table: no more actions than rounds, and of n's parent one record to an end time
pub record Searchable (w : List ℕ) (n : ℕ) : Type 0 where
  few : highest w ≤ most_actions
  apart : RecordsApart w (parent_of w n)

-- .. as a sound table has it where n is live, and so its parent the store or live
pub sound_searchable : {w : List ℕ} → Sound w → (n : ℕ) → IsGiven w n → is_live w n ≡ true → Searchable w n
sound_searchable {w} s n begun alive =
    record { few = s.few; apart = sound_apart s (parent_of w n) (parent_store_or_live s n begun alive) }

module _ (w : List ℕ) (n : ℕ) (s : Searchable w n) where
  -- the clashes after t are those with the next record, and those after it
  after_next :
      (t m : ℕ) → IsNext w t (records w (parent_of w n)) m → (c : Pair) →
      (ClashWith w n m 0 account_count c ⊎ ClashAfter w n (end_time w m) c) ↔ ClashAfter w n t c
  after_next t m is c = (⊎_elim with_next after, λ h. split h (ℕ_discrete (end_time w c.holder) (end_time w m)))
    where
      next : IsGiven w m × (is_record_of w (parent_of w n) m ≡ true)
      next = (in_records w (parent_of w n) m).0 is.member

      with_next : ClashWith w n m 0 account_count c → ClashAfter w n t c
      with_next h = (
        record { begun = rw h.0 next.0; is_record = rw h.0 next.1; known = omega arith; clash = rw h.0 h.2 },
        rw h.0 is.above,
      )

      after : ClashAfter w n (end_time w m) c → ClashAfter w n t c
      after h = (h.0, omega (arith, is.above))

      split :
          ClashAfter w n t c → Dec (end_time w c.holder ≡ end_time w m) →
          ClashWith w n m 0 account_count c ⊎ ClashAfter w n (end_time w m) c
      split h (yes e) =
          let same = s.apart m c.holder is.member (clash_record w n c h.0) e in
          inl (same, omega arith, rw same at h.0.clash)
      split h (no ne) = inr (h.0, omega (arith, is.soonest c.holder (clash_record w n c h.0) h.1))

  -- with each record there are fewer behind it, so as many rounds as there are records are enough
  search_records_finds : (left t : ℕ) → later w (parent_of w n) t ≤ left → Finds w (ClashAfter w n t) (search_records w n left t)
  unfolding search_records accounts
  search_records_finds zero t enough =
      finds_none (λ c h. none_later w (parent_of w n) t c.holder (omega arith) (clash_record w n c h.0) h.1)
  search_records_finds (suc left) t enough =
      ⊎_elim
      none_left
      (λ is.
      next_first is
      (search_records_finds left (end_time w m) (omega (arith, fewer_later w (parent_of w n) t m is.member is.above))))
      (next_after_finds w t (records w (parent_of w n)) (positive w (parent_of w n)))
    where
      m : ℕ
      m = next_after w t (records w (parent_of w n))

      none_left : NoneAfter w t (records w (parent_of w n)) m → Finds w (ClashAfter w n t) (search_records w n (suc left) t)
      none_left empty =
          rw (eq-eqb m 0 empty.0)
          (finds_none (λ c h. omega (arith, empty.1 c.holder (clash_record w n c h.0))))

      next_first :
          IsNext w t (records w (parent_of w n)) m →
          Finds w (ClashAfter w n (end_time w m)) (search_records w n left (end_time w m)) →
          Finds w (ClashAfter w n t) (search_records w n (suc left) t)
      next_first is rest =
          rw (ne_eqb m 0 (λ z. omega (arith, positive w (parent_of w n) m is.member)))
          (finds_same (after_next t m is) (search_accounts_finds w n m (λ c h. h.1) rest 0 account_count))

  rounds_enough : (t : ℕ) → later w (parent_of w n) t ≤ most_actions
  rounds_enough t = omega (arith, later_at_most w (parent_of w n) t, s.few)

  -- ---- the search after t, round by round

  -- one round, which leaves one fewer
  round :
      (left t m : ℕ) → m ≡ next_after w t (records w (parent_of w n)) →
      search_records w n (suc left) t
      ≡ cond (eqb m 0) None (search_accounts w n m (search_records w n left (end_time w m)) accounts)
  unfolding search_records
  round left t m e = rw e

  -- there is no next record
  pub search_none : (t m : ℕ) → m ≡ next_after w t (records w (parent_of w n)) → m ≡ 0 → search_after w n t ≡ None
  search_none t m e z = rw (round (most_actions - 1) t m e, z)

  -- there is one: its accounts come first, then the records after it
  pub search_next :
      (t m : ℕ) → m ≡ next_after w t (records w (parent_of w n)) → m ≢ 0 →
      search_after w n t ≡ search_accounts w n m (search_after w n (end_time w m)) accounts
  search_next t m e ne =
      rw (
        round (most_actions - 1) t m e,
        ne_eqb m 0 ne,
        finds_once
            (search_records_finds (most_actions - 1) (end_time w m) (omega (arith, fewer, rounds_enough t)))
            (search_records_finds most_actions (end_time w m) (rounds_enough (end_time w m))),
      )
    where
      fewer : later w (parent_of w n) (end_time w m) < later w (parent_of w n) t
      fewer =
          ⊎_elim
          (λ empty. absurd (ne (e ∙ empty.0)))
          (λ is. rw e (fewer_later w (parent_of w n) t _ is.member is.above))
          (next_after_finds w t (records w (parent_of w n)) (positive w (parent_of w n)))

-- What ended by the action's first read can't clash with it, so the search may begin at that time.
pub search_after_finds :
    (w : List ℕ) (n : ℕ) → Searchable w n →
    (t : ℕ) → ((k : ℕ) → k < account_count → has_read w n k ≡ true → t ≤ read_time w (kind_of w n) n k) → search_after w n t ≡ first_clash w n
search_after_finds w n s t first =
    finds_once
    (finds_same every_clash_after (search_records_finds w n s most_actions t (rounds_enough w n s t)))
    (finds_same (in_clashes w n) (first_clash_finds w n))
  where
    -- a record of n's parent is of n's kind
    read_before :
        (m k : ℕ) → is_record_of w (parent_of w n) m ≡ true → is_clash w n m k ≡ true → read_time w (kind_of w n) n k < end_time w m
    read_before m k is h =
        let below = and_right (has_written w m k && has_read w n k) (ltb (read_time w (kind_of w m) n k) (end_time w m)) h in
        rw (record_parent w (parent_of w n) m is) at (ltb-true (read_time w (kind_of w m) n k) (end_time w m) below)

    every_clash_after : (c : Pair) → ClashAfter w n t c ↔ IsClashing w n c
    every_clash_after c = (
      λ h. h.0,
      λ h.
          let read = first c.account h.known (clash_was_read w n c.holder c.account h.clash) in
          (h, omega (arith, read, read_before c.holder c.account h.is_record h.clash)),
    )

-- RULES 4.4: the search from time 0 on
pub search_finds : (w : List ℕ) (n : ℕ) → Sound w → IsGiven w n → is_live w n ≡ true → search w n ≡ first_clash w n
unfolding search
search_finds w n s begun alive = search_after_finds w n (sound_searchable s n begun alive) 0 (λ k h read. omega arith)
