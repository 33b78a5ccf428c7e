-- RULES 7.14: what the clause on the way up says. Where the parents of live actions are the store or live, it says just that there is
-- no ring of parents: no live action is above itself. Assumes nothing.
use Prim.Native.Nat.{ℕ, zero, suc, ◌≤◌, ◌<◌}
use native.Mathlib.Omega.{arith}
use mathlib.Core.Path.{◌≡◌, refl, sym, ap, ◌∙◌}
use mathlib.Core.Logic.{◌↔◌, ◌⊎◌, ⊎_elim, ⊎_map, ◌≢◌}
use mathlib.Core.Bool.{Bool, true, false, not, ◌||◌, false≢true}
use mathlib.Core.List.{List, [], ◌∷◌}
use lib.Dec.{eqb}
use lib.ListN.{length}
use borrow.Author.Tests.{eqb-true, eq-eqb}
use Rattle.rules.specs.Range.{any}
use Rattle.rules.specs.Table.{most_actions, highest, parent_of, is_live}
use Rattle.rules.specs.Walk.{walk_up, climbs, Climbs, is_at_or_below}
use Rattle.rules.specs.Sound.{are_distinct, IsGiven, StoreOrLive}
use Rattle.rules.proofs.Laws.Tests.{and_both, or_cases, or_inl, or_inr, test, not_both, false_of_not_true}
use Rattle.rules.proofs.Laws.Climbing.{climbs_above, far_parent, far_action}
use Rattle.rules.proofs.Laws.Distinct.{pigeonhole}
use Rattle.rules.proofs.Laws.Walking.{walk_move, climb_holds, moves_to_store, moves_to_store_step, at_or_below_store, at_or_below_step}

-- action n is above itself: its parent is n, or is below n
abbrev pub is_above_itself : List ℕ → ℕ → Bool
is_above_itself w n = is_at_or_below w n (parent_of w n)

-- what the clause is said of: the parents of live actions are the store or live
abbrev pub ParentsAlive : List ℕ → Type 0
ParentsAlive w = (n : ℕ) → IsGiven w n → is_live w n ≡ true → StoreOrLive w (parent_of w n)

abbrev pub HaveWaysUp : List ℕ → Type 0
HaveWaysUp w = (n : ℕ) → IsGiven w n → is_live w n ≡ true → Climbs w n

abbrev pub NoRing : List ℕ → Type 0
NoRing w = (n : ℕ) → IsGiven w n → is_live w n ≡ true → is_above_itself w n ≡ false

-- ---- a way up passes no action twice

-- whoever is below an action lies deeper, or is the action
below_deeper : (w : List ℕ) (a m : ℕ) → Climbs w m → is_at_or_below w a m ≡ true → moves_to_store w a ≤ moves_to_store w m
below_deeper w a =
    climb_holds w (λ m. is_at_or_below w a m ≡ true → moves_to_store w a ≤ moves_to_store w m)
    (λ below. absurd (not_both below (at_or_below_store w a)))
    (λ m ne up above below.
    ⊎_elim
    (λ same. omega (arith, ap (moves_to_store w) (eqb-true m a same)))
    (λ higher. omega (arith, above higher, moves_to_store_step w m ne up))
    (or_cases (eqb m a) _ (sym (at_or_below_step w a m ne up) ∙ below)))

ways_up_no_ring : (w : List ℕ) → HaveWaysUp w → NoRing w
ways_up_no_ring w ways n begun alive =
    let up = ways n begun alive in
    let action : n ≢ 0 = λ z. omega arith in
    false_of_not_true _
    (λ above.
    omega (
      arith,
      moves_to_store_step w n action up,
      below_deeper w n (parent_of w n) (climbs_above (parent_of w) most_actions n action up) above,
    ))

-- ---- where nobody is above itself

module _ (w : List ℕ) where
  -- n and those above it, so many in all
  trail : ℕ → ℕ → List ℕ
  trail zero n = []
  trail (suc many) n = n ∷ trail many (parent_of w n)

  trail_length : (many n : ℕ) → length (trail many n) ≡ many
  unfolding trail
  trail_length zero n = refl
  trail_length (suc many) n = ap suc (trail_length many (parent_of w n))

  -- the walk that asks whether it comes by a
  abbrev walk : ℕ → ℕ → ℕ → Bool
  walk a = walk_up (parent_of w) false (λ m above. eqb m a || above)

  walk_here : (a moves n : ℕ) → n ≢ 0 → (a ≡ n) ⊎ (walk a moves (parent_of w n) ≡ true) → walk a (suc moves) n ≡ true
  walk_here a moves n action by =
      walk_move (parent_of w) false (λ m above. eqb m a || above) moves n action
      ∙ ⊎_elim (λ same. or_inl _ (eq-eqb n a (sym same))) (or_inr (eqb n a)) by

  on_trail : (a n : ℕ) (ns : List ℕ) → any (eqb a) (n ∷ ns) ≡ true → (a ≡ n) ⊎ (any (eqb a) ns ≡ true)
  unfolding any
  on_trail a n ns there = ⊎_map (eqb-true a n) (λ later. later) (or_cases (eqb a n) _ there)

  -- before the store is reached it comes by all on the trail
  walk_comes_by :
      (a many moves n : ℕ) → many < moves → climbs (parent_of w) many n ≡ false → any (eqb a) (trail (suc many) n) ≡ true →
      walk a moves n ≡ true
  unfolding trail any
  walk_comes_by a many zero n enough far there = absurd (omega arith)
  walk_comes_by a zero (suc moves) n enough far there =
      walk_here a moves n (far_action (parent_of w) zero n far)
      (⊎_map (λ same. same) (λ none. absurd (false≢true none)) (on_trail a n [] there))
  walk_comes_by a (suc many) (suc moves) n enough far there =
      walk_here a moves n (far_action (parent_of w) (suc many) n far)
      (⊎_map (λ same. same) (walk_comes_by a many moves (parent_of w n) (omega arith) (far_parent (parent_of w) many n far))
      (on_trail a n (trail (suc many) (parent_of w n)) there))

  module _ (few : highest w ≤ most_actions) (alive : ParentsAlive w) where
    -- what is on the trail of a live action is a number that may be given
    trail_within :
        (many n : ℕ) → StoreOrLive w n → climbs (parent_of w) many n ≡ false → (x : ℕ) → any (eqb x) (trail (suc many) n) ≡ true →
        (1 ≤ x) × (x ≤ most_actions)
    unfolding trail any
    trail_within zero n from far x there =
        let action = far_action (parent_of w) zero n far in
        ⊎_elim (λ same. omega (arith, from.0)) (λ none. absurd (false≢true none)) (on_trail x n [] there)
    trail_within (suc many) n from far x there =
        let action = far_action (parent_of w) (suc many) n far in
        let above = alive n (omega arith, from.0) (from.1 (omega arith)) in
        ⊎_elim (λ same. omega (arith, from.0))
        (trail_within many (parent_of w n) above (far_parent (parent_of w) many n far) x) (on_trail x n (trail (suc many) (parent_of w n)) there)

    module _ (none : NoRing w) where
      trail_distinct :
          (many n : ℕ) → many ≤ most_actions → StoreOrLive w n → climbs (parent_of w) many n ≡ false →
          are_distinct (trail (suc many) n) ≡ true
      unfolding trail are_distinct any is_at_or_below
      trail_distinct zero n enough from far = refl
      trail_distinct (suc many) n enough from far =
          let action = far_action (parent_of w) (suc many) n far in
          let begun : IsGiven w n = (omega arith, from.0) in
          let live = from.1 (omega arith) in
          let higher = far_parent (parent_of w) many n far in
          and_both
          (ap not
          (false_of_not_true _
          (λ again. not_both (walk_comes_by n many most_actions (parent_of w n) (omega arith) higher again) (none n begun live))))
          (trail_distinct many (parent_of w n) (omega arith) (alive n begun live) higher)

      -- more actions than there are numbers would stand on the trail once each
      no_ring_ways_up : HaveWaysUp w
      no_ring_ways_up n begun live =
          ⊎_elim (λ up. up)
          (λ far.
          let from : StoreOrLive w n = (begun.1, λ _. live) in
          let once = trail_distinct most_actions n (omega arith) from far in
          absurd
          (omega (
            arith,
            pigeonhole most_actions (trail (suc most_actions) n) once (trail_within most_actions n from far),
            trail_length (suc most_actions) n,
          )))
          (test (climbs (parent_of w) most_actions n))

-- ---- the clause

pub ways_up_or_rings : (w : List ℕ) → highest w ≤ most_actions → ParentsAlive w → HaveWaysUp w ↔ NoRing w
ways_up_or_rings w few alive = (ways_up_no_ring w, no_ring_ways_up w few alive)
