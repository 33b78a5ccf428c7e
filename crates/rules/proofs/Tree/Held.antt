-- Every action that is shown is below the store, once: what the store's children and all below them hold, level by level, is what
-- the actions hold from which the store is reached in as many moves. Assumes nothing.
use Prim.Native.Nat.{ℕ, zero, suc, ◌+◌}
use native.Mathlib.Omega.{arith}
use native.Mathlib.Nat.{zero-add, add-zero, add-suc, suc-add}
use mathlib.Core.Path.{◌≡◌, refl, sym, ap, ◌∙◌}
use mathlib.Core.Bool.{Bool, true, false, not, cond, ◌&&◌, ◌||◌}
use mathlib.Core.List.{List}
use lib.Dec.{eqb}
use borrow.Author.Tests.{ne_eqb}
use Rattle.rules.specs.Range.{up_from}
use Rattle.rules.specs.Table.{most_actions, highest, parent_of, actions, is_child_of}
use Rattle.rules.specs.Walk.{climbs}
use Rattle.rules.specs.Sound.{Sound}
use Rattle.rules.specs.Tree.{is_shown}
use Rattle.rules.proofs.Tree.Numbers.{tally, tally_agree, tally_plus, tally_swap, tally_there, tally_of, tally_of_nothing, tally_of_none, tally_of_plus}

-- ---- level by level

-- from n the store is reached in so many moves, and no fewer
unfoldable takes : (ℕ → ℕ) → ℕ → ℕ → Bool
takes parent zero n = eqb n 0
takes parent (suc moves) n = not (eqb n 0) && takes parent moves (parent n)

-- with one move more, those are reached too that take as many
level_joins :
    (parent : ℕ → ℕ) (x moves n : ℕ) →
    cond (takes parent (suc moves) n) x 0 + cond (climbs parent moves n) x 0 ≡ cond (climbs parent (suc moves) n) x 0
unfolding takes climbs
level_joins parent x zero n = at (eqb n 0) (eqb (parent n) 0)
  where
    at : (b c : Bool) → cond (not b && c) x 0 + cond b x 0 ≡ cond (b || c) x 0
    at true c = omega arith
    at false true = omega arith
    at false false = omega arith
level_joins parent x (suc moves) n =
    at (eqb n 0) (takes parent (suc moves) (parent n)) (climbs parent moves (parent n)) (climbs parent (suc moves) (parent n))
    (level_joins parent x moves (parent n))
  where
    at :
        (b c d e : Bool) → cond c x 0 + cond d x 0 ≡ cond e x 0 →
        cond (not b && c) x 0 + cond (b || d) x 0 ≡ cond (b || e) x 0
    at true c d e same = omega arith
    at false c d e same = same

-- ---- children

-- what f gives for p's children, added up
unfoldable pub of_children : List ℕ → (ℕ → ℕ) → ℕ → ℕ
of_children w f p = tally_of (is_child_of w p) f (actions w)

-- what all below p hold, from so many levels, where each action has its own
unfoldable pub below : (ℕ → ℕ) → List ℕ → ℕ → ℕ → ℕ
below own w zero p = 0
below own w (suc levels) p = of_children w (λ m. own m + below own w levels m) p

children_nothing : (w : List ℕ) (p : ℕ) → of_children w (λ m. 0) p ≡ 0
unfolding of_children
children_nothing w p = tally_of_nothing (is_child_of w p) (actions w)

module _ {w : List ℕ} (s : Sound w) where
  abbrev parent : ℕ → ℕ
  parent = parent_of w

  -- the store, and all actions
  abbrev parents : List ℕ
  parents = up_from 0 (suc (highest w))

  -- each action is the child of one action, or of the store
  children_of_all : (f : ℕ → ℕ → ℕ) → tally (λ p. of_children w (f p) p) parents ≡ tally (λ m. f (parent m) m) (actions w)
  unfolding of_children tally_of actions
  children_of_all f =
      tally_swap (λ p m. cond (is_child_of w p m) (f p m) 0) parents (up_from 1 (highest w))
      ∙ tally_agree _ _ 1 (highest w)
      (λ m h. tally_there (λ p. f p m) (parent m) 0 (suc (highest w)) (omega (arith, s.known m (omega arith))))

  -- so the children of one level are the next level
  level_children : (moves : ℕ) (f : ℕ → ℕ) → tally_of (takes parent moves) (of_children w f) parents ≡ tally_of (takes parent (suc moves)) f (actions w)
  unfolding tally_of takes actions
  level_children moves f =
      tally_agree _ _ 0 (suc (highest w)) (λ p h. asked p (takes parent moves p))
      ∙ children_of_all (λ p m. cond (takes parent moves p) (f m) 0)
      ∙ tally_agree _ _ 1 (highest w) (λ m h. rw (ne_eqb m 0 (λ z. omega arith)))
    where
      asked : (p : ℕ) (b : Bool) → cond b (of_children w f p) 0 ≡ of_children w (λ m. cond b (f m) 0) p
      asked p true = refl
      asked p false = sym (children_nothing w p)

  -- no action is as near as the store itself
  none_nearest : (f : ℕ → ℕ) → tally_of (λ n. eqb n 0) f (actions w) ≡ 0
  unfolding actions
  none_nearest f = tally_of_none _ f 1 (highest w) (λ n h. ne_eqb n 0 (λ z. omega arith))

  module _ (own : ℕ → ℕ) where
    -- with what the next level holds, what those hold that are reached in one move more
    next_level :
        (moves : ℕ) →
        tally_of (takes parent (suc moves)) own (actions w) + tally_of (climbs parent moves) own (actions w)
        ≡ tally_of (climbs parent (suc moves)) own (actions w)
    unfolding tally_of actions
    next_level moves =
        sym (tally_plus _ _ (actions w)) ∙ tally_agree _ _ 1 (highest w) (λ n h. level_joins parent (own n) moves n)

    -- the store is at no later level than its own
    without_store :
        (moves : ℕ) (f : ℕ → ℕ) → tally_of (takes parent (suc moves)) f parents ≡ tally_of (takes parent (suc moves)) f (actions w)
    unfolding tally_of tally takes actions up_from
    without_store moves f = zero-add _

    -- the children of one level, and all below them, hold what the next level holds and all below that
    level_below :
        (levels moves : ℕ) →
        tally_of (takes parent moves) (below own w (suc levels)) parents
        ≡ tally_of (takes parent (suc moves)) own (actions w) + tally_of (takes parent (suc moves)) (below own w levels) parents
    unfolding below actions
    level_below levels moves =
        level_children moves (λ m. own m + below own w levels m)
        ∙ tally_of_plus (takes parent (suc moves)) own (below own w levels) 1 (highest w)
        ∙ ap (λ z. tally_of (takes parent (suc moves)) own (actions w) + z) (sym (without_store moves (below own w levels)))

    below_level :
        (levels moves : ℕ) →
        tally_of (takes parent moves) (below own w levels) parents + tally_of (climbs parent moves) own (actions w)
        ≡ tally_of (climbs parent (moves + levels)) own (actions w)
    unfolding below
    below_level zero moves = rw (tally_of_nothing (takes parent moves) parents, add-zero moves) (zero-add _)
    below_level (suc levels) moves =
        omega (
          arith,
          level_below levels moves,
          next_level moves,
          below_level levels (suc moves),
          ap further (add-suc moves levels ∙ sym (suc-add moves levels)),
        )
      where
        further : ℕ → ℕ
        further most = tally_of (climbs parent most) own (actions w)

    pub held_by_shown : below own w most_actions 0 ≡ tally_of (is_shown w) own (actions w)
    unfolding is_shown tally_of tally takes climbs up_from actions
    held_by_shown = omega (arith, below_level most_actions zero, none_nearest own, none_nearest (below own w most_actions))
