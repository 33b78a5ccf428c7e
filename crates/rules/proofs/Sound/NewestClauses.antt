-- The clauses on newest end times, from test to fact and back. Assumes nothing.
use Prim.Native.Nat.{ℕ, ◌≤◌, ◌<◌}
use native.Mathlib.Omega.{arith}
use native.Mathlib.Decide.{ℕ_discrete}
use mathlib.Core.Path.{◌≡◌, refl}
use mathlib.Core.Logic.{⊎_elim}
use mathlib.Core.Bool.{Bool, true, false, false≢true, beq}
use mathlib.Core.List.{List}
use borrow.Author.Tests.{leb-true, eqb-true, le-leb, eq-eqb}
use lib.Dec.{leb, eqb}
use Rattle.rules.specs.Card.{account_count, accounts}
use Rattle.rules.specs.Kind.{kind_under}
use Rattle.rules.specs.Table.{highest, counter, has_read, read_time, newest, is_live}
use Rattle.rules.specs.Free.{is_store_or_live}
use Rattle.rules.specs.Stale.{is_stale, is_known_stale}
use Rattle.rules.specs.Sound.{is_newest_in_time, is_spoken_of, is_told_true, is_newest_true, are_newest_true, IsGiven, StoreOrLive}
use Rattle.rules.proofs.Laws.Tests.{or_cases, or_inl, or_inr, implied, implies}
use Rattle.rules.proofs.Laws.Ranges.{all_at, all_of}
use Rattle.rules.proofs.Sound.Scans.{all_given, given_all}

-- two tests are alike where they are one
alike_same : (a b : Bool) → beq a b ≡ true → a ≡ b
alike_same true true h = refl
alike_same true false h = absurd (false≢true h)
alike_same false true h = absurd (false≢true h)
alike_same false false h = refl

pub same_alike : (a b : Bool) → a ≡ b → beq a b ≡ true
same_alike true b h = rw (← h) refl
same_alike false b h = rw (← h) refl

-- p is the store or live, as a test and as a fact
pub held_fact : (w : List ℕ) (p : ℕ) → p ≤ highest w → is_store_or_live w p ≡ true → StoreOrLive w p
held_fact w p known t = (
  known,
  λ one. ⊎_elim (λ z. absurd (omega (arith, eqb-true p 0 z))) (λ l. l) (or_cases (eqb p 0) (is_live w p) t),
)

pub held_test : (w : List ℕ) (p : ℕ) → StoreOrLive w p → is_store_or_live w p ≡ true
held_test w p (_, lives) = go (ℕ_discrete p 0)
  where
    go : Dec (p ≡ 0) → is_store_or_live w p ≡ true
    go (yes e) = or_inl _ (eq-eqb p 0 e)
    go (no ne) = or_inr (eqb p 0) (lives (omega arith))

module _ (w : List ℕ) (p : ℕ) where
  abbrev pub NewestInTime : Type 0
  NewestInTime = (k : ℕ) → k < account_count → newest w p k ≤ counter w (kind_under p)

  pub in_time_fact : is_newest_in_time w p ≡ true → NewestInTime
  unfolding is_newest_in_time accounts
  in_time_fact t k account =
      leb-true _ _ (all_at (λ j. leb (newest w p j) (counter w (kind_under p))) 0 account_count k t (omega arith))

  pub in_time_test : NewestInTime → is_newest_in_time w p ≡ true
  unfolding is_newest_in_time accounts
  in_time_test f = all_of _ 0 account_count (λ k r. le-leb _ _ (f k (omega arith)))

  -- of one action m below p
  abbrev pub ToldTrue : ℕ → Type 0
  ToldTrue m =
      is_live w m ≡ true → is_spoken_of w p m ≡ true → (k : ℕ) → k < account_count → has_read w m k ≡ true →
      let t = read_time w (kind_under p) m k in is_known_stale w p k t ≡ is_stale w p k t

  told_fact : (m : ℕ) → is_newest_true w p m ≡ true → ToldTrue m
  unfolding is_newest_true is_told_true accounts
  told_fact m t live below k account has =
      let reads = implied (is_spoken_of w p m) _ (implied (is_live w m) _ t live) below in
      alike_same _ _ (implied (has_read w m k) _ (all_at (is_told_true w p m) 0 account_count k reads (omega arith)) has)

  told_test : (m : ℕ) → ToldTrue m → is_newest_true w p m ≡ true
  unfolding is_newest_true is_told_true accounts
  told_test m f =
      implies (is_live w m) _
      (λ live.
      implies (is_spoken_of w p m) _
      (λ below. all_of _ 0 account_count (λ k r. implies (has_read w m k) _ (λ has. same_alike _ _ (f live below k (omega arith) has)))))

  abbrev pub NewestTrue : Type 0
  NewestTrue = StoreOrLive w p → (m : ℕ) → IsGiven w m → ToldTrue m

  pub newest_true_fact : are_newest_true w p ≡ true → NewestTrue
  unfolding are_newest_true
  newest_true_fact t held m given =
      told_fact m (all_given w (is_newest_true w p) (implied (is_store_or_live w p) _ t (held_test w p held)) m given)

  pub newest_true_test : p ≤ highest w → NewestTrue → are_newest_true w p ≡ true
  unfolding are_newest_true
  newest_true_test known f =
      implies (is_store_or_live w p) _
      (λ held. given_all w (is_newest_true w p) (λ m given. told_test m (f (held_fact w p known held) m given)))
