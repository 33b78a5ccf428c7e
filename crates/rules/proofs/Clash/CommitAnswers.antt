-- What a commit answers, by what its rule finds against it: demand 2's second half, under either rule. Assumes nothing.
use Prim.Native.Nat.{ℕ}
use mathlib.Core.Path.{◌≡◌, refl, sym, ap, ◌∙◌}
use mathlib.Core.Logic.{◌↔◌}
use mathlib.Core.Bool.{true, false}
use mathlib.Core.List.{List, []}
use borrow.Author.Tests.{eqb-true}
use Rattle.rules.specs.declared.Answer.TheVariants.{Committed, Failed}
use Rattle.rules.specs.declared.Found.{Found}
use Rattle.std.specs.Prelude.{Option, Some, None}
use Rattle.rules.specs.Found.{found_at}
use Rattle.rules.specs.Table.{is_forward}
use Rattle.rules.specs.Clash.{clashes, first_clash}
use Rattle.rules.specs.Ahead.{first_ahead, ReaderAhead, IsFirstAhead}
use Rattle.rules.specs.Verdict.{commit_verdict}
use Rattle.rules.specs.Event.{Event, commit_code, is_commit}
use Rattle.rules.specs.Cause.{is_commit_outside, are_outside, is_sum_outside}
use Rattle.rules.specs.Ledger.{Ledger}
use Rattle.rules.specs.Commit.{commit_time}
use Rattle.rules.specs.Step.{judged, commit, step}
use Rattle.rules.proofs.Laws.EventCases.{cause_in, step_commits}
use Rattle.rules.proofs.Clash.Clashes.{IsFirst, first_clash_at, first_clash_none}
use Rattle.rules.proofs.Clash.Readers.{first_ahead_at, first_ahead_none}

-- ---- what is found, under each rule

module _ (w : List ℕ) (n : ℕ) where
  pub backward_verdict : is_forward w ≡ false → commit_verdict w n ≡ first_clash w n
  unfolding commit_verdict
  backward_verdict is = rw is

  pub forward_verdict : is_forward w ≡ true → commit_verdict w n ≡ first_ahead w n
  unfolding commit_verdict
  forward_verdict is = rw is

  -- RULES 4.5: nothing
  pub backward_nothing : is_forward w ≡ false → (commit_verdict w n ≡ None) ↔ (clashes w n ≡ [])
  backward_nothing is = rw (backward_verdict is) (first_clash_none w n)

  pub forward_nothing : is_forward w ≡ true → (commit_verdict w n ≡ None) ↔ ((m k : ℕ) → ReaderAhead w n m k → ⊥)
  forward_nothing is = rw (forward_verdict is) (first_ahead_none w n)

  -- RULES 4.6: the two numbers of the answer
  pub backward_found : is_forward w ≡ false → (t k : ℕ) → (commit_verdict w n ≡ found_at t k) ↔ IsFirst w n t k
  backward_found is t k = rw (backward_verdict is) (first_clash_at w n t k)

  pub forward_found : is_forward w ≡ true → (m k : ℕ) → (commit_verdict w n ≡ found_at m k) ↔ IsFirstAhead w n m k
  forward_found is m k = rw (forward_verdict is) (first_ahead_at w n m k)

-- ---- what is answered

module _ (s : Ledger) (n : ℕ) where
  nothing_commits : commit_verdict s.table n ≡ None → (commit s n).answer ≡ Committed (commit_time s.table n)
  unfolding commit judged
  nothing_commits e = rw e

  found_fails : (a k : ℕ) → commit_verdict s.table n ≡ found_at a k → (commit s n).answer ≡ Failed a k
  unfolding commit judged
  found_fails a k e = rw e

  committed_nothing : (t : ℕ) → (commit s n).answer ≡ Committed t → commit_verdict s.table n ≡ None
  committed_nothing t said = go (commit_verdict s.table n) refl
    where
      go : (f : Option Found) → commit_verdict s.table n ≡ f → commit_verdict s.table n ≡ None
      go None e = e
      -- the answer would be both Failed and Committed
      go (Some f) e = let failed = found_fails f.against f.account e in cc

module _ (s : Ledger) (e : Event) (allowed : cause_in s e ≡ 0) (is : is_commit e ≡ true) where
  answers_so : (step s e).answer ≡ (commit s e.number).answer
  answers_so = ap (λ o. o.answer) (step_commits s e allowed is)

  -- a commit that isn't refused answers committed exactly when its rule finds nothing: no clash, or no reader ahead
  pub committed_exactly : ((t : ℕ) × ((step s e).answer ≡ Committed t)) ↔ (commit_verdict s.table e.number ≡ None)
  committed_exactly = (
    λ (t, said). committed_nothing s e.number t (sym answers_so ∙ said),
    λ nothing. (commit_time s.table e.number, answers_so ∙ nothing_commits s e.number nothing),
  )

  -- and failed, with its two numbers, where it finds something
  pub failed_with : (a k : ℕ) → commit_verdict s.table e.number ≡ found_at a k → (step s e).answer ≡ Failed a k
  failed_with a k found = answers_so ∙ found_fails s e.number a k found

-- RULES 8.4: a commit that fails isn't refused for its sums
pub failing_makes_no_sum :
    (s : Ledger) (e : Event) → is_commit e ≡ true → (a k : ℕ) → commit_verdict s.table e.number ≡ found_at a k →
    is_sum_outside s.table s.base e ≡ false
unfolding are_outside is_commit_outside
failing_makes_no_sum s e is a k found = rw (eqb-true e.code commit_code is, found)
