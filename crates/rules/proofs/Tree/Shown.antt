-- RULES 12.3: which actions are shown: those from which the store is reached, by however many moves; so an action is where its
-- parent is, or is the store. Assumes nothing.
use Prim.Native.Nat.{ℕ, zero, suc, ◌≤◌}
use native.Mathlib.Omega.{arith}
use mathlib.Core.Path.{◌≡◌, refl, ap, ◌∙◌}
use mathlib.Core.Logic.{⊎_elim}
use mathlib.Core.Bool.{true}
use mathlib.Core.List.{List}
use borrow.Author.Tests.{eqb-true}
use Rattle.rules.specs.Table.{most_actions, highest, parent_of, is_child_of}
use Rattle.rules.specs.Walk.{climbs}
use Rattle.rules.specs.Sound.{IsGiven, Sound}
use Rattle.rules.specs.Tree.{is_shown}
use Rattle.rules.proofs.Laws.Tests.{test, same_test}
use Rattle.rules.proofs.Laws.Climbing.{climbs_store, climbs_child, climbs_most, climbs_above}
use Rattle.rules.proofs.Sound.Depths.{depth_few}

pub store_shown : (w : List ℕ) → is_shown w 0 ≡ true
unfolding is_shown
store_shown w = climbs_store (parent_of w) most_actions

module _ {w : List ℕ} (s : Sound w) where
  -- however many moves lead to the store, `most_actions` are enough
  pub reaching_shown : (moves n : ℕ) → n ≤ highest w → climbs (parent_of w) moves n ≡ true → is_shown w n ≡ true
  unfolding is_shown
  reaching_shown zero n known up = climbs_most (parent_of w) zero most_actions n (omega arith) up
  reaching_shown (suc moves) n known up =
      ⊎_elim
      (reaching_shown moves n known)
      (λ far.
      let few =
      depth_few (parent_of w) (highest w) (λ _. true) (λ m begun _. (s.known m begun, λ _. refl)) moves n (known, λ _. refl) far up in
      climbs_most (parent_of w) (suc moves) most_actions n (omega (arith, few, s.few)) up)
      (test (climbs (parent_of w) moves n))

  -- so an action is shown where its parent is
  pub shown_by_parent : (n : ℕ) → IsGiven w n → is_shown w n ≡ is_shown w (parent_of w n)
  unfolding is_shown
  shown_by_parent n known =
      same_test _ _ (climbs_above (parent_of w) most_actions n (λ z. omega arith))
      (λ above. reaching_shown (suc most_actions) n known.1 (climbs_child (parent_of w) most_actions n above))

  pub child_shown : (p n : ℕ) → IsGiven w n → is_child_of w p n ≡ true → is_shown w p ≡ true → is_shown w n ≡ true
  child_shown p n known is above = shown_by_parent n known ∙ ap (is_shown w) (eqb-true (parent_of w n) p is) ∙ above
