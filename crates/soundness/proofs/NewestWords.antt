-- Where no action has a newest end time, only the store's can be too late. Assumes nothing.
use Prim.Native.Nat.{ℕ, ◌≤◌}
use native.Mathlib.Omega.{arith}
use native.Mathlib.Decide.{ℕ_discrete}
use mathlib.Core.Path.{◌≡◌}
use mathlib.Core.Bool.{true}
use mathlib.Core.List.{List}
use lib.Dec.{eqb}
use borrow.Author.Tests.{eqb-true}
use Rattle.rules.specs.Range.{all}
use Rattle.rules.specs.Card.{account_count, accounts}
use Rattle.rules.specs.Table.{highest, newest, actions, parents}
use Rattle.rules.specs.Sound.{is_newest_in_time}
use Rattle.rules.proofs.Laws.Tests.{same_test}
use Rattle.rules.proofs.Laws.Ranges.{all_at}
use Rattle.rules.proofs.Sound.Scans.{all_given, all_parents, parents_all}
use Rattle.rules.proofs.Sound.NewestClauses.{in_time_test}
use Rattle.rows.specs.Ends.{has_no_newest}

none_in_time : (w : List ℕ) (p : ℕ) → has_no_newest w p ≡ true → is_newest_in_time w p ≡ true
unfolding accounts
none_in_time w p none =
    in_time_test w p
    (λ k account.
    let zero = eqb-true (newest w p k) 0 (all_at (λ j. eqb (newest w p j) 0) 0 account_count k none (omega arith)) in omega (arith, zero))

pub store_alone :
    (w : List ℕ) → all (has_no_newest w) (actions w) ≡ true → all (is_newest_in_time w) (parents w) ≡ is_newest_in_time w 0
store_alone w none =
    same_test _ _
    (λ each. all_parents w (is_newest_in_time w) each 0 (omega arith))
    (λ store. parents_all w (is_newest_in_time w) (λ p known. by_number store p known (ℕ_discrete p 0)))
  where
    by_number : is_newest_in_time w 0 ≡ true → (p : ℕ) → p ≤ highest w → Dec (p ≡ 0) → is_newest_in_time w p ≡ true
    by_number store p known (yes e) = rw e store
    by_number store p known (no action) = none_in_time w p (all_given w (has_no_newest w) none p (omega arith, known))
