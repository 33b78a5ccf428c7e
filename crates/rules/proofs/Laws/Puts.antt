-- One value put in at a number, among values that each stand at a number of their own. Assumes nothing.
use Prim.Native.Nat.{ℕ}
use mathlib.Core.Path.{◌≡◌, refl}
use mathlib.Core.Logic.{◌≢◌}
use lib.Dec.{eqb}
use borrow.Author.Tests.{eqb-true, eqb-false, eq-eqb, ne_eqb}
use Rattle.rules.specs.Serial.Collect.{put}
use Rattle.rules.proofs.Laws.Tests.{cond_holds}

module _ {A : Type 0} (f : ℕ → A) (n : ℕ) (v : A) where
  pub put_there : put f n v n ≡ v
  unfolding put
  put_there = rw (eq-eqb n n refl)

  pub put_elsewhere : (m : ℕ) → m ≢ n → put f n v m ≡ f m
  unfolding put
  put_elsewhere m m≢n = rw (ne_eqb m n m≢n)

  -- what holds of v at n, and of every value that stands at another number, holds of them all
  pub put_holds : (P : ℕ → A → Type 0) → P n v → ((m : ℕ) → m ≢ n → P m (f m)) → (m : ℕ) → P m (put f n v m)
  unfolding put
  put_holds P new others m =
      cond_holds (P m) (eqb m n) (λ e. rw (eqb-true m n e) new) (λ e. others m (eqb-false m n e))
