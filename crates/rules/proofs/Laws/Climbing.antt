-- How far it is up to the store: so many moves lead there. It is all that a walk up the parents asks of them. Assumes nothing.
use Prim.Native.Nat.{ℕ, zero, suc, ◌≤◌, ◌<◌}
use native.Mathlib.Omega.{arith}
use mathlib.Core.Path.{◌≡◌, refl}
use mathlib.Core.Logic.{◌≢◌, ⊎_elim}
use mathlib.Core.Bool.{true, false}
use lib.Dec.{eqb}
use borrow.Author.Tests.{eqb-true, eqb-false, eq-eqb, ne_eqb}
use Rattle.rules.specs.Walk.{climbs}
use Rattle.rules.proofs.Laws.Tests.{or_cases, or_inl, or_inr, test, not_both, false_of_not_true}

module _ (parent : ℕ → ℕ) where
  pub climbs_nowhere : (n : ℕ) → climbs parent zero n ≡ true → n ≡ 0
  unfolding climbs
  climbs_nowhere n up = eqb-true n 0 up

  pub climbs_store : (moves : ℕ) → climbs parent moves 0 ≡ true
  unfolding climbs
  climbs_store zero = refl
  climbs_store (suc moves) = refl

  pub climbs_parent : (moves n : ℕ) → n ≢ 0 → climbs parent (suc moves) n ≡ true → climbs parent moves (parent n) ≡ true
  unfolding climbs
  climbs_parent moves n action up = rw (ne_eqb n 0 action) at up

  pub climbs_child : (moves n : ℕ) → climbs parent moves (parent n) ≡ true → climbs parent (suc moves) n ≡ true
  unfolding climbs
  climbs_child moves n up = or_inr (eqb n 0) up

  -- more moves do no harm
  pub climbs_most : (moves most n : ℕ) → moves ≤ most → climbs parent moves n ≡ true → climbs parent most n ≡ true
  unfolding climbs
  climbs_most zero most n enough up = rw (climbs_nowhere n up) (climbs_store most)
  climbs_most (suc moves) zero n enough up = absurd (omega arith)
  climbs_most (suc moves) (suc most) n enough up =
      ⊎_elim (or_inl _) (λ above. or_inr (eqb n 0) (climbs_most moves most (parent n) (omega arith) above)) (or_cases (eqb n 0) _ up)

  pub climbs_more : (moves n : ℕ) → climbs parent moves n ≡ true → climbs parent (suc moves) n ≡ true
  climbs_more moves n = climbs_most moves (suc moves) n (omega arith)

  -- where the store is reached from an action, it is from the action's parent
  pub climbs_above : (moves n : ℕ) → n ≢ 0 → climbs parent moves n ≡ true → climbs parent moves (parent n) ≡ true
  climbs_above zero n action up = absurd (action (climbs_nowhere n up))
  climbs_above (suc moves) n action up = climbs_more moves (parent n) (climbs_parent moves n action up)

  -- where so many moves don't lead to the store, one fewer don't from the parent, and it isn't the store
  pub far_parent : (moves n : ℕ) → climbs parent (suc moves) n ≡ false → climbs parent moves (parent n) ≡ false
  far_parent moves n far = false_of_not_true _ (λ up. not_both (climbs_child moves n up) far)

  pub far_action : (moves n : ℕ) → climbs parent moves n ≡ false → n ≢ 0
  far_action moves n far store = not_both (climbs_store moves) (rw store at far)

  -- where other parents are the same all the way up, as `On` holds there, they lead to the store too
  pub climbs_agree :
      (parent' : ℕ → ℕ) (On : ℕ → Type 0) → ((m : ℕ) → m ≢ 0 → On m → (parent' m ≡ parent m) × On (parent m)) →
      (moves n : ℕ) → On n → climbs parent moves n ≡ true → climbs parent' moves n ≡ true
  unfolding climbs
  climbs_agree parent' On same zero n on up = up
  climbs_agree parent' On same (suc moves) n on up =
      ⊎_elim (or_inl _)
      (λ store.
      let ne = eqb-false n 0 store in
      let (here, above) = same n ne on in
      or_inr (eqb n 0) (rw here (climbs_agree parent' On same moves (parent n) above (climbs_parent moves n ne up))))
      (test (eqb n 0))

  -- where parents fall, an action's number is moves enough
  pub falling_climbs :
      (last : ℕ) → ((m : ℕ) → (1 ≤ m) × (m ≤ last) → parent m < m) → (moves n : ℕ) → n ≤ last → n ≤ moves →
      climbs parent moves n ≡ true
  unfolding climbs
  falling_climbs last falls zero n known enough = eq-eqb n 0 (omega arith)
  falling_climbs last falls (suc moves) zero known enough = refl
  falling_climbs last falls (suc moves) (suc n) known enough =
      let down = falls (suc n) (omega arith) in
      climbs_child moves (suc n) (falling_climbs last falls moves (parent (suc n)) (omega arith) (omega arith))
