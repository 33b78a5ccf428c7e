-- Whether every read of an action is in time, by the latest of its times: for the times of either kind. Assumes nothing.
use Prim.Native.Nat.{ℕ, ◌+◌, ◌-◌, ◌≤◌, ◌<◌, max}
use native.Mathlib.Omega.{arith}
use native.Mathlib.Nat.{le_refl}
use mathlib.Core.Path.{◌≡◌, sym}
use mathlib.Core.Logic.{◌⊎◌, inl, inr}
use mathlib.Core.Bool.{Bool, true, false, not, cond, ◌&&◌, ◌||◌, and_assoc}
use mathlib.Core.List.{List}
use lib.Dec.{leb}
use borrow.Author.Tests.{leb-true, leb-false, le-leb, lt-leb}
use Rattle.rules.specs.Range.{up_from, all}
use Rattle.rules.specs.Card.{account_count, accounts}
use Rattle.rules.specs.Table.{counter, has_read, read_time}
use Rattle.rules.specs.Sound.{has_times_in}
use Rattle.rules.proofs.Laws.Tests.{test, and_true}
use Rattle.rules.proofs.Laws.Ranges.{left_next, left_done}
use Rattle.rows.specs.Times.{later_read}

max_leb : (a b top : ℕ) → leb (max a b) top ≡ (leb b top && leb a top)
max_leb a b top = go (test (leb a top)) (test (leb b top))
  where
    go :
        (leb a top ≡ true) ⊎ (leb a top ≡ false) → (leb b top ≡ true) ⊎ (leb b top ≡ false) →
        leb (max a b) top ≡ (leb b top && leb a top)
    go (inl p) (inl q) =
        let low = leb-true a top p in
        let low' = leb-true b top q in
        rw (p, q) (le-leb (max a b) top (omega (arith, low, low')))
    go (inl p) (inr q) = let high = leb-false b top q in rw q (lt-leb (max a b) top (omega (arith, high)))
    go (inr p) (inl q) = let high = leb-false a top p in rw (p, q) (lt-leb (max a b) top (omega (arith, high)))
    go (inr p) (inr q) = let high = leb-false b top q in rw q (lt-leb (max a b) top (omega (arith, high)))

-- the later of two times is in time where both are; there may be but one
later_in_time :
    (read : Bool) (time latest top : ℕ) →
    leb (cond read (max time latest) latest) top ≡ (leb latest top && (not read || leb time top))
later_in_time true time latest top = max_leb time latest top
later_in_time false time latest top = sym (and_true (leb latest top))

module _ (w : List ℕ) (h n : ℕ) where
  -- the read of account k is in time
  abbrev is_read_in : ℕ → Bool
  is_read_in k = not (has_read w n k) || leb (read_time w h n k) (counter w h)

  -- so are the latest time so far, and the reads of the accounts from k on
  pub times_in_from : ℕ → ℕ → Bool
  times_in_from k latest = leb latest (counter w h) && all is_read_in (up_from k (account_count - k))

  pub times_in_all : has_times_in w n h ≡ times_in_from 0 (counter w h)
  unfolding has_times_in accounts times_in_from
  times_in_all = rw (le-leb (counter w h) (counter w h) (le_refl _))

  pub times_in_next : (k latest : ℕ) → k < account_count → times_in_from k latest ≡ times_in_from (k + 1) (later_read w h n k latest)
  unfolding times_in_from all
  times_in_next k latest inside =
      rw (left_next k account_count inside, later_in_time (has_read w n k) (read_time w h n k) latest (counter w h))
      (sym (and_assoc (leb latest (counter w h)) (is_read_in k) (all is_read_in (up_from (k + 1) (account_count - (k + 1))))))

  pub times_in_done : (k latest : ℕ) → account_count ≤ k → times_in_from k latest ≡ leb latest (counter w h)
  unfolding times_in_from all
  times_in_done k latest past = rw (left_done k account_count past) (and_true (leb latest (counter w h)))
