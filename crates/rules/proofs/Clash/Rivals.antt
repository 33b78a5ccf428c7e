-- Who is a rival, RULES 4.12: in a sound table a live action's rivals are its live siblings and the live actions below these.
-- Assumes nothing.
use Prim.Native.Nat.{ℕ}
use native.Mathlib.Omega.{arith}
use native.Mathlib.Decide.{ℕ_discrete}
use mathlib.Core.Path.{◌≡◌, refl, sym, ap, ◌∙◌}
use mathlib.Core.Logic.{◌↔◌, ◌≢◌, ◌⊎◌, inl, inr, ⊎_elim}
use mathlib.Core.Bool.{true, false, not, ◌&&◌}
use mathlib.Core.List.{List}
use lib.Dec.{eqb}
use borrow.Author.Tests.{eqb-true, not-true}
use Rattle.rules.specs.Table.{parent_of, is_live}
use Rattle.rules.specs.Walk.{is_at_or_below, is_under}
use Rattle.rules.specs.Sound.{IsGiven, IsLiveAction, StoreOrLive, Sound}
use Rattle.rules.specs.Ahead.{is_rival, BySibling}
use Rattle.rules.proofs.Laws.Tests.{and_left, and_right, and_both, or_cases, or_inl, or_inr, not_both, false_of_not_true}
use Rattle.rules.proofs.Laws.Walking.{climb_holds, parent_store_or_live, sound_climbs, at_or_below_store, at_or_below_step, at_or_below_itself, not_below_parent}
use Rattle.rules.proofs.Laws.Under.{under_parent, under_further}
use Rattle.rules.proofs.Sound.Rings.{ways_up_or_rings}

module _ {w : List ℕ} (s : Sound w) where
  live_action : (x : ℕ) → x ≢ 0 → StoreOrLive w x → IsLiveAction w x
  live_action x action (known, alive) = ((omega arith, known), alive (omega arith))

  -- at or below a: a itself, or one whose parent is
  below_cases : (a x : ℕ) → x ≢ 0 → StoreOrLive w x → is_at_or_below w a x ≡ true → (x ≡ a) ⊎ (is_at_or_below w a (parent_of w x) ≡ true)
  below_cases a x action held below =
      ⊎_elim
      (λ same. inl (eqb-true x a same))
      inr
      (or_cases (eqb x a) _ (sym (at_or_below_step w a x action (sound_climbs s x held)) ∙ below))

  none_above_itself : (x : ℕ) → IsLiveAction w x → is_at_or_below w x (parent_of w x) ≡ false
  none_above_itself x (given, alive) = (ways_up_or_rings w s.few (parent_store_or_live s)).0 s.climb x given alive

  -- ---- from a rival up to a sibling

  module _ (n : ℕ) where
    -- below n's parent and not its child: so is the parent
    above_under :
        (x : ℕ) → IsLiveAction w x → parent_of w x ≢ parent_of w n → is_under w (parent_of w n) x ≡ true →
        (parent_of w x ≢ 0) × (is_under w (parent_of w n) (parent_of w x) ≡ true)
    unfolding is_under
    above_under x (given, alive) apart under =
        ⊎_elim
        (λ store. (λ z. apart (z ∙ sym (eqb-true (parent_of w n) 0 store)), or_inl _ store))
        (λ below.
        let action : parent_of w x ≢ 0 = λ z. not_both (rw z at below) (at_or_below_store w (parent_of w n)) in (
          action,
          ⊎_elim (λ same. absurd (apart same)) (or_inr (eqb (parent_of w n) 0))
              (below_cases (parent_of w n) (parent_of w x) action (parent_store_or_live s x given alive) below),
        ))
        (or_cases (eqb (parent_of w n) 0) _ under)

    sibling_above :
        (m : ℕ) → StoreOrLive w m → m ≢ 0 → is_under w (parent_of w n) m ≡ true → is_at_or_below w n m ≡ false → BySibling w n m
    sibling_above m held =
        climb_holds w
        (λ x. StoreOrLive w x → x ≢ 0 → is_under w (parent_of w n) x ≡ true → is_at_or_below w n x ≡ false → BySibling w n x)
        (λ _ action _ _. absurd (action refl))
        (λ x action up above at _ under out. by_parent x action (live_action x action at) above under out (ℕ_discrete (parent_of w x) (parent_of w n)))
        m (sound_climbs s m held) held
      where
        by_parent :
            (x : ℕ) → x ≢ 0 → IsLiveAction w x →
            (StoreOrLive w (parent_of w x) → parent_of w x ≢ 0 → is_under w (parent_of w n) (parent_of w x) ≡ true →
            is_at_or_below w n (parent_of w x) ≡ false → BySibling w n (parent_of w x)) →
            is_under w (parent_of w n) x ≡ true → is_at_or_below w n x ≡ false → Dec (parent_of w x ≡ parent_of w n) → BySibling w n x
        by_parent x action lives above under out (yes same) =
            let itself = at_or_below_itself w x action (s.climb x lives.0 lives.1) in
            record {
              lives = lives;
              sibling = x;
              sibling_lives = lives;
              same_parent = same;
              other = λ z. not_both (ap (λ a. is_at_or_below w a x) (sym z) ∙ itself) out;
              at_or_below = itself;
            }
        by_parent x action lives above under out (no apart) =
            let up = s.climb x lives.0 lives.1 in
            let (named, higher) = above_under x lives apart under in
            let found =
            above (parent_store_or_live s x lives.0 lives.1) named higher (not_below_parent w n x action up out) in
            record {
              lives = lives;
              sibling = found.sibling;
              sibling_lives = found.sibling_lives;
              same_parent = found.same_parent;
              other = found.other;
              at_or_below = at_or_below_step w found.sibling x action up ∙ or_inr (eqb x found.sibling) found.at_or_below;
            }

  -- ---- from a sibling down to a rival

  module _ (n x : ℕ) (lives : IsLiveAction w n) (siblings : IsLiveAction w x) (same : parent_of w x ≡ parent_of w n) (other : x ≢ n) where
    under_too : (m : ℕ) → StoreOrLive w m → is_at_or_below w x m ≡ true → is_under w (parent_of w n) m ≡ true
    under_too m held =
        climb_holds w (λ y. StoreOrLive w y → is_at_or_below w x y ≡ true → is_under w (parent_of w n) y ≡ true)
        (λ _ below. absurd (not_both below (at_or_below_store w x)))
        (λ y action up above at below.
        let (given, alive) = live_action y action at in
        ⊎_elim
        (λ it. rw it (rw (← same) (under_parent s x siblings)))
        (λ higher.
        let held' = parent_store_or_live s y given alive in
        let named : parent_of w y ≢ 0 = λ z. not_both (rw z at higher) (at_or_below_store w x) in
        under_further s (parent_of w n) y (parent_of w y) (live_action (parent_of w y) named held') refl (above held' higher))
        (below_cases x y action at below))
        m (sound_climbs s m held) held

    -- nobody is below both
    not_both_below : (m : ℕ) → StoreOrLive w m → is_at_or_below w x m ≡ true → is_at_or_below w n m ≡ true → ⊥
    not_both_below m held =
        climb_holds w (λ y. StoreOrLive w y → is_at_or_below w x y ≡ true → is_at_or_below w n y ≡ true → ⊥)
        (λ _ below _. not_both below (at_or_below_store w x))
        (λ y action up above at below_x below_n.
        let (given, alive) = live_action y action at in
        by_cases y (above (parent_store_or_live s y given alive)) (below_cases x y action at below_x) (below_cases n y action at below_n))
        m (sound_climbs s m held) held
      where
        by_cases :
            (y : ℕ) → (is_at_or_below w x (parent_of w y) ≡ true → is_at_or_below w n (parent_of w y) ≡ true → ⊥) →
            (y ≡ x) ⊎ (is_at_or_below w x (parent_of w y) ≡ true) → (y ≡ n) ⊎ (is_at_or_below w n (parent_of w y) ≡ true) → ⊥
        by_cases y above (inl is_x) (inl is_n) = other (sym is_x ∙ is_n)
        by_cases y above (inl is_x) (inr n_above) = not_both (rw (is_x, same) at n_above) (none_above_itself n lives)
        by_cases y above (inr x_above) (inl is_n) = not_both (rw (is_n, ← same) at x_above) (none_above_itself x siblings)
        by_cases y above (inr x_above) (inr n_above) = above x_above n_above

  -- ---- both ways

  pub rivals_by_siblings : (n : ℕ) → IsLiveAction w n → (m : ℕ) → IsGiven w m → (is_rival w n m ≡ true) ↔ BySibling w n m
  unfolding is_rival
  rivals_by_siblings n lives m given = (
    λ rival.
        let alive = and_left (is_live w m) _ rival in
        let elsewhere = and_right (is_live w m) (is_under w (parent_of w n) m && not (is_at_or_below w n m)) rival in
        sibling_above n m (given.1, λ _. alive) (λ z. omega arith) (and_left (is_under w (parent_of w n) m) _ elsewhere)
        (not-true _ (and_right (is_under w (parent_of w n) m) _ elsewhere)),
    λ it.
        let held : StoreOrLive w m = (given.1, λ _. it.lives.1) in
        let x = it.sibling in
        and_both it.lives.1
        (and_both (under_too n x lives it.sibling_lives it.same_parent it.other m held it.at_or_below)
        (ap not
        (false_of_not_true _
        (not_both_below n x lives it.sibling_lives it.same_parent it.other m held it.at_or_below)))),
  )
