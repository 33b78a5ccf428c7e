-- The end times that one pass over the actions finds for a parent say of every time what the parent's records say: whether a record
-- with the account in its write set ended after it. Assumes nothing.
use Prim.Native.Nat.{ℕ, ◌<◌, max}
use native.Mathlib.Omega.{arith}
use mathlib.Core.Path.{◌≡◌, refl, sym, ap, ◌∙◌}
use mathlib.Core.Logic.{◌≢◌, ⊎_elim}
use mathlib.Core.Bool.{Bool, true, false, cond, ◌&&◌, ◌||◌, or_assoc}
use mathlib.Core.List.{List, [], ◌∷◌}
use lib.Dec.{ltb}
use lib.ListN.{length, length-set, get_or, set, replicate, length-replicate, get_or-replicate}
use lib.Seq.{get_or-set_same, get_or-set_other}
use borrow.Author.Tests.{ltb-true, ltb-false, lt-ltb, le-ltb}
use Rattle.rules.specs.Range.{any, fold}
use Rattle.rules.specs.Card.{account_count, accounts}
use Rattle.rules.specs.Table.{highest, end_time, has_written, has_writes, is_committed, actions, is_child_of, is_record_of, records}
use Rattle.rules.specs.Stale.{is_stale}
use Rattle.rules.proofs.Laws.Tests.{and_false, or_false, test, cond_holds}
use Rattle.rules.proofs.Laws.Ranges.{any_at, any_agree, fold_keeps, fold_changes}
use Rattle.rules.proofs.Laws.Lists.{any_filter}
use Rattle.rows.specs.Ends.{raised_end, raised_ends}
use Rattle.soundness.specs.Held.{is_committed_child_of, counted_in, ends_held}

-- ---- one action counted in: what becomes of account k's end time

IsWhole : List ℕ → Type 0
IsWhole ends = length ends ≡ account_count

module _ (w : List ℕ) (m : ℕ) where
  -- where m has written k, the later of the two
  later_end : ℕ → ℕ → ℕ
  later_end k end = cond (has_written w m k) (max (end_time w m) end) end

  one_whole : (k : ℕ) (ends : List ℕ) → IsWhole ends → IsWhole (raised_end w m k ends)
  unfolding IsWhole
  one_whole k ends whole =
      cond_holds (λ e. length e ≡ account_count) (has_written w m k) {x = set ends k (max (end_time w m) (get_or ends k 0))} {y = ends}
      (λ wrote. length-set ends k _ ∙ whole) (λ none. whole)

  one_same : (k : ℕ) → k < account_count → (ends : List ℕ) → IsWhole ends → get_or (raised_end w m k ends) k 0 ≡ later_end k (get_or ends k 0)
  unfolding IsWhole later_end
  one_same k account ends whole = chosen (has_written w m k)
    where
      later : ℕ
      later = max (end_time w m) (get_or ends k 0)

      chosen : (b : Bool) → get_or (cond b (set ends k later) ends) k 0 ≡ cond b later (get_or ends k 0)
      chosen true = get_or-set_same ends k later 0 (omega arith)
      chosen false = refl

  one_other : (j k : ℕ) → j ≢ k → (ends : List ℕ) → get_or (raised_end w m j ends) k 0 ≡ get_or ends k 0
  one_other j k other ends =
      cond_holds (λ e. get_or e k 0 ≡ get_or ends k 0) (has_written w m j)
      (λ wrote. get_or-set_other ends j k _ 0 (λ same. other (omega arith))) (λ none. refl)

  raised_whole : (ends : List ℕ) → IsWhole ends → IsWhole (raised_ends w m ends)
  unfolding raised_ends accounts
  raised_whole = fold_keeps IsWhole (raised_end w m) 0 account_count (λ k r. one_whole k)

  raised_at : (k : ℕ) → k < account_count → (ends : List ℕ) → IsWhole ends → get_or (raised_ends w m ends) k 0 ≡ later_end k (get_or ends k 0)
  unfolding raised_ends accounts
  raised_at k account =
      fold_changes IsWhole (λ e. get_or e k 0) (later_end k) (raised_end w m) 0 account_count k
      (λ j r. one_whole j) (one_same k account) (λ j r other e whole. one_other j k other e) (omega arith)

module _ (w : List ℕ) (p k : ℕ) where
  counted_end : ℕ → ℕ → ℕ
  counted_end m end = cond (is_committed_child_of w p m) (later_end w m k end) end

  counted_whole : (m : ℕ) (ends : List ℕ) → IsWhole ends → IsWhole (counted_in w p m ends)
  unfolding counted_in
  counted_whole m ends whole =
      cond_holds IsWhole (is_committed_child_of w p m) (λ child. raised_whole w m ends whole) (λ other. whole)

  counted_at : k < account_count → (m : ℕ) (ends : List ℕ) → IsWhole ends → get_or (counted_in w p m ends) k 0 ≡ counted_end m (get_or ends k 0)
  unfolding counted_in counted_end
  counted_at account m ends whole = chosen (is_committed_child_of w p m)
    where
      chosen : (b : Bool) → get_or (cond b (raised_ends w m ends) ends) k 0 ≡ cond b (later_end w m k (get_or ends k 0)) (get_or ends k 0)
      chosen true = raised_at w m k account ends whole
      chosen false = refl

  -- ---- all of them

  pass_at :
      k < account_count → (ms ends : List ℕ) → IsWhole ends → get_or (fold (counted_in w p) ms ends) k 0 ≡ fold counted_end ms (get_or ends k 0)
  unfolding fold
  pass_at account [] ends whole = refl
  pass_at account (m ∷ ms) ends whole =
      pass_at account ms (counted_in w p m ends) (counted_whole m ends whole)
      ∙ ap (fold counted_end ms) (counted_at account m ends whole)

  -- m has written k as a child of p that committed, and ended after t
  ends_after : ℕ → ℕ → Bool
  ends_after t m = is_committed_child_of w p m && (has_written w m k && ltb t (end_time w m))

  before_larger : (t a b : ℕ) → ltb t (max a b) ≡ (ltb t b || ltb t a)
  before_larger t a b =
      ⊎_elim
      (λ h. let low = ltb-true t b h in rw h (lt-ltb t (max a b) (omega arith)))
      (λ h.
      let high = ltb-false t b h in
      rw h
      (⊎_elim
      (λ g. let low = ltb-true t a g in rw g (lt-ltb t (max a b) (omega arith)))
      (λ g. let high' = ltb-false t a g in rw g (le-ltb t (max a b) (omega arith)))
      (test (ltb t a))))
      (test (ltb t b))

  before_counted : (t m end : ℕ) → ltb t (counted_end m end) ≡ (ltb t end || ends_after t m)
  unfolding counted_end later_end ends_after
  before_counted t m end = by_tests (is_committed_child_of w p m) (has_written w m k)
    where
      by_tests :
          (child wrote : Bool) →
          ltb t (cond child (cond wrote (max (end_time w m) end) end) end) ≡ (ltb t end || (child && (wrote && ltb t (end_time w m))))
      by_tests true true = before_larger t (end_time w m) end
      by_tests true false = sym (or_false (ltb t end))
      by_tests false wrote = sym (or_false (ltb t end))

  before_pass : (t : ℕ) (ms : List ℕ) (end : ℕ) → ltb t (fold counted_end ms end) ≡ (ltb t end || any (ends_after t) ms)
  unfolding fold any
  before_pass t [] end = sym (or_false (ltb t end))
  before_pass t (m ∷ ms) end =
      before_pass t ms (counted_end m end)
      ∙ ap (λ b. b || any (ends_after t) ms) (before_counted t m end)
      ∙ or_assoc (ltb t end) (ends_after t m) (any (ends_after t) ms)

  -- ---- the records

  -- who has written k has written, so that as a child of p that committed it is a record of p
  record_ends :
      k < account_count → (t m : ℕ) → (is_record_of w p m && (has_written w m k && ltb t (end_time w m))) ≡ ends_after t m
  unfolding is_record_of ends_after has_writes accounts
  record_ends account t m =
      regroup (is_child_of w p m) (is_committed w m) (has_writes w m) (has_written w m k) (ltb t (end_time w m))
      (λ wrote. any_at (has_written w m) 0 account_count k (omega arith) wrote)
    where
      regroup :
          (child done writes wrote late : Bool) → (wrote ≡ true → writes ≡ true) →
          ((child && (done && writes)) && (wrote && late)) ≡ ((child && done) && (wrote && late))
      regroup true true writes true late only = rw (only refl)
      regroup true true writes false late only = and_false writes
      regroup true false writes wrote late only = refl
      regroup false done writes wrote late only = refl

  stale_by_children : k < account_count → (t : ℕ) → is_stale w p k t ≡ any (ends_after t) (actions w)
  unfolding is_stale records actions
  stale_by_children account t =
      any_filter _ (is_record_of w p) (actions w) ∙ any_agree _ _ 1 (highest w) (λ m r. record_ends account t m)

  pub stale_by_ends : k < account_count → (t : ℕ) → is_stale w p k t ≡ ltb t (get_or (ends_held w p) k 0)
  unfolding ends_held IsWhole
  stale_by_ends account t =
      let none : List ℕ = replicate account_count 0 in
      let start : ltb t (get_or none k 0) ≡ false = rw (get_or-replicate {A = ℕ} account_count k 0 0 account) (le-ltb t 0 (omega arith)) in
      stale_by_children account t
      ∙ sym (ap (ltb t) (pass_at account (actions w) none (length-replicate {A = ℕ} account_count 0))
      ∙ before_pass t (actions w) (get_or none k 0)
      ∙ ap (λ b. b || any (ends_after t) (actions w)) start)
