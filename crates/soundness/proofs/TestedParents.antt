-- Newest end times are true of every parent where they are of the store and of the parents of live actions: a parent that has
-- somebody live below it has a live child. Assumes nothing.
use Prim.Native.Nat.{ℕ, zero, suc, ◌≤◌}
use native.Mathlib.Omega.{arith}
use native.Mathlib.Decide.{ℕ_discrete}
use mathlib.Core.Path.{◌≡◌, refl, sym, ◌∙◌}
use mathlib.Core.Logic.{◌≢◌, ⊎_elim}
use mathlib.Core.Bool.{Bool, true, false, ◌&&◌}
use mathlib.Core.List.{List}
use lib.Dec.{eqb}
use lib.ListN.{get_or, set, replicate}
use lib.Seq.{get_or-set_other}
use borrow.Author.Tests.{eqb-true, ne_eqb}
use Rattle.rules.specs.Range.{all}
use Rattle.rules.specs.Table.{most_actions, highest, parent_of, is_live, actions, parents}
use Rattle.rules.specs.Walk.{Climbs, is_at_or_below, is_under}
use Rattle.rules.specs.Sound.{are_newest_true, IsLiveAction}
use Rattle.rules.proofs.Laws.Tests.{and_left, and_right, and_both, or_cases, implied, implies, not_both, same_test, cond_holds}
use Rattle.rules.proofs.Laws.Climbing.{climbs_above}
use Rattle.rules.proofs.Laws.Walking.{climb_holds, at_or_below_store, at_or_below_step}
use Rattle.rules.proofs.Sound.Scans.{all_given, given_all, all_parents, parents_all}
use Rattle.rules.proofs.Sound.NewestClauses.{newest_true_fact, newest_true_test}
use Rattle.ancestry.specs.Ancestry.{LiveClimb}
use Rattle.soundness.specs.Passed.{is_true_above, with_passed, ArePassed, LiveParents}

module _ (w : List ℕ) (up : LiveClimb w) (alive : LiveParents w) where
  -- what holds of the parent of each live action holds of each action that has one below it
  holds_above :
      (P : ℕ → Type 0) → ((m : ℕ) → IsLiveAction w m → P (parent_of w m)) →
      (p m : ℕ) → IsLiveAction w m → is_at_or_below w p (parent_of w m) ≡ true → P p
  holds_above P child p m lives below =
      climb_holds w Below (λ none. absurd (omega (arith, none.0.0))) from_parent m (up.climb m lives.0 lives.1) lives below
    where
      Below : ℕ → Type 0
      Below x = IsLiveAction w x → is_at_or_below w p (parent_of w x) ≡ true → P p

      from_parent : (x : ℕ) → x ≢ 0 → Climbs w x → Below (parent_of w x) → Below x
      from_parent x action climbs above lives under = by_parent (ℕ_discrete (parent_of w x) 0)
        where
          by_parent : Dec (parent_of w x ≡ 0) → P p
          by_parent (yes store) = absurd (not_both (rw store at under) (at_or_below_store w p))
          by_parent (no other) =
              let held = alive x lives in
              ⊎_elim
              (λ same. rw (eqb-true (parent_of w x) p same) at (child x lives))
              (above ((omega arith, held.0), held.1 (omega arith)))
              (or_cases (eqb (parent_of w x) p) _
              (rw (at_or_below_step w p (parent_of w x) other (climbs_above (parent_of w) most_actions x action climbs)) at under))

  under_action : (p m : ℕ) → p ≢ 0 → is_under w p m ≡ true → is_at_or_below w p (parent_of w m) ≡ true
  unfolding is_under
  under_action p m action under = rw (ne_eqb p 0 action) at under

  pub parents_by_live : all (are_newest_true w) (parents w) ≡ (are_newest_true w 0 && all (is_true_above w) (actions w))
  unfolding is_true_above
  parents_by_live = same_test _ _ few every
    where
      few : all (are_newest_true w) (parents w) ≡ true → (are_newest_true w 0 && all (is_true_above w) (actions w)) ≡ true
      few t =
          and_both (all_parents w (are_newest_true w) t 0 (omega arith))
          (given_all w (is_true_above w)
          (λ m given.
          implies (is_live w m) _ (λ live. all_parents w (are_newest_true w) t (parent_of w m) (alive m (given, live)).0)))

      every : (are_newest_true w 0 && all (is_true_above w) (actions w)) ≡ true → all (are_newest_true w) (parents w) ≡ true
      every t = parents_all w (are_newest_true w) (λ p known. of p known (ℕ_discrete p 0))
        where
          child : (m : ℕ) → IsLiveAction w m → are_newest_true w (parent_of w m) ≡ true
          child m (given, live) =
              implied (is_live w m) _ (all_given w (is_true_above w) (and_right (are_newest_true w 0) _ t) m given) live

          of : (p : ℕ) → p ≤ highest w → Dec (p ≡ 0) → are_newest_true w p ≡ true
          of p known (yes store) = rw store (and_left (are_newest_true w 0) _ t)
          of p known (no action) =
              newest_true_test w p known
              (λ held m given live below.
              newest_true_fact w p
              (holds_above (λ x. are_newest_true w x ≡ true) child p m (given, live) (under_action p m action below))
              held m given live below)

-- ---- the marks of those who have passed

module _ (w : List ℕ) where
  pub none_passed : (n : ℕ) → ArePassed w (replicate n false)
  none_passed n p marked = absurd (not_both marked (unmarked n p))
    where
      unmarked : (n p : ℕ) → get_or (replicate n false) p false ≡ false
      unmarked zero p = refl
      unmarked (suc n) zero = refl
      unmarked (suc n) (suc p) = unmarked n p

  module _ (passed : List Bool) (pass : ArePassed w passed) where
    pub one_passes : (p : ℕ) → are_newest_true w p ≡ true → ArePassed w (set passed p true)
    one_passes p passes q marked = go (ℕ_discrete q p)
      where
        go : Dec (q ≡ p) → are_newest_true w q ≡ true
        go (yes same) = rw same passes
        go (no other) = pass q (sym (get_or-set_other passed p q true false other) ∙ marked)

    pub parent_passes : (m : ℕ) → is_true_above w m ≡ true → ArePassed w (with_passed w m passed)
    unfolding is_true_above with_passed
    parent_passes m above =
        cond_holds (ArePassed w) (is_live w m)
        (λ live. one_passes (parent_of w m) (implied (is_live w m) _ above live)) (λ done. pass)
