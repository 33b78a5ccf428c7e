-- The search for the first clash as its loops go: the records of a parent from the highest number down, and the accounts of one
-- record from the first on; and where it may begin. Assumes nothing.
use Prim.Native.Nat.{ℕ, zero, suc, ◌+◌, ◌-◌, ◌≤◌, ◌<◌}
use native.Mathlib.Nat.{le_refl}
use native.Mathlib.Omega.{arith}
use native.Mathlib.Decide.{ℕ_discrete}
use mathlib.Core.Path.{◌≡◌, refl, sym, ◌∙◌}
use mathlib.Core.Logic.{◌≢◌, ⊎_elim}
use mathlib.Core.Bool.{Bool, true, false, cond, ◌&&◌}
use mathlib.Core.List.{List, ◌∷◌}
use Rattle.rules.specs.Range.{up_from, filter, fold}
use Rattle.rules.specs.Card.{account_count, accounts}
use Rattle.rules.specs.Table.{highest, counter, parent_of, end_time, has_read, read_time, actions, is_record_of, records}
use Rattle.rules.specs.declared.Found.{Found}
use Rattle.std.specs.Prelude.{Option, Some}
use Rattle.rules.specs.Found.{found_at}
use Rattle.rules.specs.Clash.{is_clash}
use Rattle.rules.specs.Search.{is_sooner, next_after, search_accounts}
use Rattle.rules.proofs.Laws.Tests.{cond_holds}
use Rattle.rules.proofs.Laws.Ranges.{Within, left_next, left_done, fold_keeps, fold_left_next, fold_left_done}
use Rattle.rules.proofs.Clash.Clashes.{in_records}
use Rattle.rules.proofs.Clash.Records.{record_parent, next_after_finds, positive}
use borrow.Author.Tests.{eqb-true}
use lib.Dec.{eqb}
use Rattle.rows.specs.Row.{numbered}
use Rattle.rows.specs.Times.{sooner_read}
use Rattle.rows.proofs.Numbered.{found_here}
use Rattle.validation.specs.FirstRead.{first_read}
use Rattle.validation.specs.NextRecord.{is_next_record, number_or_none}

number_numbered : (n : ℕ) → number_or_none (numbered n) ≡ n
number_numbered n =
    cond_holds (λ x. number_or_none x ≡ n) (eqb n 0) (λ zero. sym (eqb-true n 0 zero)) (λ _. refl)

-- ---- the next record

-- the records of p from number a on
unfoldable pub records_from : List ℕ → ℕ → ℕ → List ℕ
records_from w p a = filter (is_record_of w p) (up_from a (highest w + 1 - a))

module _ (w : List ℕ) (p t : ℕ) where
  -- above the highest number there is none
  pub scan_start : next_after w t (records_from w p (highest w + 1)) ≡ 0
  unfolding records_from filter next_after
  scan_start = rw (left_done (highest w + 1) (highest w + 1) (le_refl _))

  -- action m before those from m + 1 on
  pub scan_next :
      (m next : ℕ) → m ≤ highest w → next ≡ next_after w t (records_from w p (m + 1)) →
      next_after w t (records_from w p m) ≡ cond (is_next_record w p t m next) m next
  unfolding records_from filter next_after
  scan_next m next h e = rw (left_next m (highest w + 1) (omega arith), e) (taken (is_record_of w p m))
    where
      rest : List ℕ
      rest = records_from w p (m + 1)

      taken :
          (b : Bool) →
          next_after w t (cond b (m ∷ rest) rest) ≡ cond (b && is_sooner w t m (next_after w t rest)) m (next_after w t rest)
      taken true = refl
      taken false = refl

  -- .. as the code holds the one found so far, where `m` is one past the action that is asked
  module _ (m : ℕ) {next : Option ℕ} (some : 1 < m) (inside : m ≤ highest w + 1)
      (so_far : next ≡ numbered (next_after w t (records_from w p m))) where
    held : number_or_none next ≡ next_after w t (records_from w p m)
    held = rw so_far (number_numbered (next_after w t (records_from w p m)))

    scan_back :
        next_after w t (records_from w p (m - 1))
        ≡ cond (is_next_record w p t (m - 1) (number_or_none next)) (m - 1) (number_or_none next)
    scan_back =
        let back : m - 1 + 1 ≡ m = omega arith in
        scan_next (m - 1) (number_or_none next) (omega arith) (rw back held)

    pub scan_put :
        is_next_record w p t (m - 1) (number_or_none next) ≡ true → Some (m - 1) ≡ numbered (next_after w t (records_from w p (m - 1)))
    scan_put is = rw (scan_back, is) (found_here refl (omega arith))

    pub scan_over :
        is_next_record w p t (m - 1) (number_or_none next) ≡ false → next ≡ numbered (next_after w t (records_from w p (m - 1)))
    scan_over not = rw (scan_back, not, held) so_far

  -- from the first start on they are all
  pub scan_done : next_after w t (records_from w p 1) ≡ next_after w t (records w p)
  unfolding records_from records actions
  scan_done = let e : highest w + 1 - 1 ≡ highest w = omega arith in rw e

-- it is a child of p, where there is one
pub next_child : (w : List ℕ) (p t m : ℕ) → m ≡ next_after w t (records w p) → m ≢ 0 → parent_of w m ≡ p
next_child w p t m e ne =
    ⊎_elim
    (λ empty. absurd (ne (e ∙ empty.0)))
    (λ is. rw e (record_parent w p _ ((in_records w p (next_after w t (records w p))).0 is.member).1))
    (next_after_finds w t (records w p) (positive w p))

-- ---- the accounts of record m from k on, where the later records have `rest`

abbrev pub search_from : List ℕ → ℕ → ℕ → Option Found → ℕ → Option Found
search_from w n m rest k = search_accounts w n m rest (up_from k (account_count - k))

module _ (w : List ℕ) (n m : ℕ) (rest : Option Found) (k : ℕ) where
  pub accounts_here : k < account_count → is_clash w n m k ≡ true → search_from w n m rest k ≡ found_at (end_time w m) k
  unfolding search_accounts
  accounts_here h e = rw (left_next k account_count h, e)

  pub accounts_next : k < account_count → is_clash w n m k ≡ false → search_from w n m rest k ≡ search_from w n m rest (k + 1)
  unfolding search_accounts
  accounts_next h e = rw (left_next k account_count h, e)

  pub accounts_done : account_count ≤ k → search_from w n m rest k ≡ rest
  unfolding search_accounts
  accounts_done h = rw (left_done k account_count h)

-- ---- where the search begins, by the times of kind h

module _ (w : List ℕ) (h n : ℕ) where
  -- what the accounts from k on make of the smallest time so far
  pub first_read_from : ℕ → ℕ → ℕ
  first_read_from k first = fold (sooner_read w h n) (up_from k (account_count - k)) first

  pub first_all : first_read w h n ≡ first_read_from 0 (counter w h)
  unfolding first_read accounts first_read_from
  first_all = refl

  pub first_next : (k first : ℕ) → k < account_count → first_read_from k first ≡ first_read_from (k + 1) (sooner_read w h n k first)
  unfolding first_read_from
  first_next k first inside = fold_left_next (sooner_read w h n) k account_count first inside

  pub first_done : (k first : ℕ) → account_count ≤ k → first_read_from k first ≡ first
  unfolding first_read_from
  first_done k first past = fold_left_done (sooner_read w h n) k account_count first past

  sooner_at_most : (k first : ℕ) → sooner_read w h n k first ≤ first
  sooner_at_most k first = cond_holds (λ t. t ≤ first) (has_read w n k) (λ _. omega arith) (λ _. le_refl first)

  sooner_reads : (k first : ℕ) → has_read w n k ≡ true → sooner_read w h n k first ≤ read_time w h n k
  sooner_reads k first read = rw read (omega arith)

  fold_at_most : (a j first : ℕ) → fold (sooner_read w h n) (up_from a j) first ≤ first
  fold_at_most a j first =
      fold_keeps (λ t. t ≤ first) (sooner_read w h n) a j (λ k r t low. omega (arith, sooner_at_most k t)) first (le_refl first)

  fold_reads :
      (a j first k : ℕ) → Within a j k → has_read w n k ≡ true → fold (sooner_read w h n) (up_from a j) first ≤ read_time w h n k
  unfolding fold up_from
  fold_reads a zero first k r read = absurd (omega arith)
  fold_reads a (suc j) first k r read =
      go (ℕ_discrete k a) (λ later. fold_reads (suc a) j (sooner_read w h n a first) k later read)
    where
      rest : ℕ
      rest = fold (sooner_read w h n) (up_from (suc a) j) (sooner_read w h n a first)

      go : Dec (k ≡ a) → (Within (suc a) j k → rest ≤ read_time w h n k) → rest ≤ read_time w h n k
      go (yes e) later =
          let here = sooner_reads a first (rw e at read) in
          rw e (omega (arith, fold_at_most (suc a) j (sooner_read w h n a first), here))
      go (no ne) later = later (omega arith)

  -- no account was read before it
  pub first_reads : (k : ℕ) → k < account_count → has_read w n k ≡ true → first_read w h n ≤ read_time w h n k
  unfolding first_read_from
  first_reads k inside read = rw first_all (fold_reads 0 account_count (counter w h) k (omega arith) read)
