-- Going up the parents. A bound on the moves that leads to the store makes no difference; so the nearest version, the moves up
-- and what is at or below an action follow from the action and its parent. Assumes nothing.
use Prim.Native.Nat.{ℕ, zero, suc, ◌≤◌}
use native.Mathlib.Omega.{arith}
use native.Mathlib.Decide.{ℕ_discrete}
use mathlib.Core.Path.{◌≡◌, refl, sym, ap, ◌∙◌, fun_ext}
use mathlib.Core.Logic.{◌≢◌, ⊎_elim}
use mathlib.Core.Bool.{true, false, cond, ◌||◌}
use mathlib.Core.List.{List}
use borrow.Author.Tests.{eqb-true, eqb-false, eq-eqb, ne_eqb}
use lib.Dec.{eqb}
use Rattle.rules.specs.Table.{most_actions, highest, parent_of, has_card, is_live}
use Rattle.rules.specs.Walk.{walk_up, climbs, Climbs, is_at_or_below}
use Rattle.rules.specs.Nearest.{nearest}
use Rattle.rules.specs.Sound.{IsGiven, StoreOrLive, Sound}
use Rattle.rules.proofs.Laws.Tests.{or_inl, or_neither, cond_holds}
use Rattle.rules.proofs.Laws.Climbing.{climbs_nowhere, climbs_store, climbs_parent, climbs_more, climbs_above}

-- ---- any walk

module _ {A : Type 0} (parent : ℕ → ℕ) (top : A) (here : ℕ → A → A) where
  pub walk_store : (moves : ℕ) → walk_up parent top here moves 0 ≡ top
  unfolding walk_up
  walk_store zero = refl
  walk_store (suc moves) = refl

  pub walk_move : (moves n : ℕ) → n ≢ 0 → walk_up parent top here (suc moves) n ≡ here n (walk_up parent top here moves (parent n))
  unfolding walk_up
  walk_move moves n action = rw (ne_eqb n 0 action)

  -- What holds at the store, and at an action where it holds at its parent, holds of every walk that reaches the store.
  pub walk_holds :
      (P : ℕ → A → Type 0) → P 0 top → ((m : ℕ) → m ≢ 0 → (above : A) → P (parent m) above → P m (here m above)) →
      (moves n : ℕ) → climbs parent moves n ≡ true → P n (walk_up parent top here moves n)
  unfolding walk_up
  walk_holds P store action zero n up = rw (climbs_nowhere parent n up) store
  walk_holds P store action (suc moves) n up =
      cond_holds (P n) (eqb n 0)
      (λ e. rw (eqb-true n 0 e) store)
      (λ e.
      let ne = eqb-false n 0 e in
      action n ne _ (walk_holds P store action moves (parent n) (climbs_parent parent moves n ne up)))

-- What counts at most one for each action counts no more than there are moves.
pub walk_counts :
    (parent : ℕ → ℕ) (here : ℕ → ℕ → ℕ) → ((m above : ℕ) → here m above ≤ suc above) →
    (moves n : ℕ) → walk_up parent 0 here moves n ≤ moves
unfolding walk_up
walk_counts parent here one zero n = omega arith
walk_counts parent here one (suc moves) n =
    cond_holds (λ x. x ≤ suc moves) (eqb n 0)
    (λ e. omega arith)
    (λ e. omega (arith, one n (walk_up parent 0 here moves (parent n)), walk_counts parent here one moves (parent n)))

-- Two walks from n agree where, on n and what is above it, their parents agree and what they make of an action does. `On` holds
-- of all these. Each bound reaches the store; they need not be the same.
pub walk_agree :
    {A : Type 0} (parent parent' : ℕ → ℕ) (top : A) (here here' : ℕ → A → A) (On : ℕ → Type 0) →
    ((m : ℕ) → m ≢ 0 → On m → On (parent m)) → ((m : ℕ) → m ≢ 0 → On m → parent' m ≡ parent m) →
    ((m : ℕ) → m ≢ 0 → On m → (above : A) → here' m above ≡ here m above) →
    (a b n : ℕ) → On n → climbs parent a n ≡ true → climbs parent b n ≡ true →
    walk_up parent' top here' a n ≡ walk_up parent top here b n
walk_agree {A} parent parent' top here here' On Above-on parents heres a b n on up_a up_b =
    walk_holds parent top here Other (λ _ moves _. walk_store parent' top here' moves) action b n up_b on a up_a
  where
    -- the other walk from m comes to this
    Other : ℕ → A → Type 0
    Other m this = On m → (moves : ℕ) → climbs parent moves m ≡ true → walk_up parent' top here' moves m ≡ this

    action : (m : ℕ) → m ≢ 0 → (above : A) → Other (parent m) above → Other m (here m above)
    action m ne above same on zero up = absurd (ne (climbs_nowhere parent m up))
    action m ne above same on (suc moves) up =
        rw (
          walk_move parent' top here' moves m ne,
          parents m ne on,
          same (Above-on m ne on) moves (climbs_parent parent moves m ne up),
        )
        (heres m ne on above)

module _ {A : Type 0} (parent : ℕ → ℕ) (top : A) (here : ℕ → A → A) where
  pub walk_any_moves :
      (a b n : ℕ) → climbs parent a n ≡ true → climbs parent b n ≡ true → walk_up parent top here a n ≡ walk_up parent top here b n
  walk_any_moves a b n =
      walk_agree parent parent top here here (λ _. Unit {0}) (λ m _ _. tt) (λ m _ _. refl) (λ m _ _ above. refl) a b n tt

  pub walk_step :
      (moves n : ℕ) → n ≢ 0 → climbs parent moves n ≡ true →
      walk_up parent top here moves n ≡ here n (walk_up parent top here moves (parent n))
  walk_step zero n ne up = absurd (ne (climbs_nowhere parent n up))
  walk_step (suc moves) n ne up =
      let above = climbs_parent parent moves n ne up in
      walk_move parent top here moves n ne
      ∙ ap (here n) (walk_any_moves moves (suc moves) (parent n) above (climbs_more parent moves (parent n) above))

-- ---- in a table

-- What holds of the store, and of an action where it holds of its parent, holds wherever the store is reached from.
pub climb_holds :
    (w : List ℕ) (P : ℕ → Type 0) → P 0 → ((m : ℕ) → m ≢ 0 → Climbs w m → P (parent_of w m) → P m) → (n : ℕ) → Climbs w n → P n
climb_holds w P store action n up =
    walk_holds {A = Unit {0}} (parent_of w) tt (λ m above. tt) (λ m _. Climbs w m → P m)
    (λ _. store)
    (λ m ne _ above from. action m ne from (above (climbs_above (parent_of w) most_actions m ne from)))
    most_actions n up up

-- ---- from the store and from live actions

-- a live action's parent is the store or live too
pub parent_store_or_live : {w : List ℕ} → Sound w → (n : ℕ) → IsGiven w n → is_live w n ≡ true → StoreOrLive w (parent_of w n)
parent_store_or_live s n begun alive = (
  s.known n begun,
  λ action. ⊎_elim (λ store. absurd (omega arith)) (λ above. above) (s.alive n begun alive),
)

pub sound_climbs : {w : List ℕ} → Sound w → (n : ℕ) → StoreOrLive w n → Climbs w n
sound_climbs {w} s n from = by_number (ℕ_discrete n 0)
  where
    by_number : Dec (n ≡ 0) → Climbs w n
    by_number (yes store) = rw store (climbs_store (parent_of w) most_actions)
    by_number (no action) = s.climb n (omega arith, from.0) (from.1 (omega arith))

-- ---- the moves up to the store: 0 of the store itself, 1 of a topaction, and so on

unfoldable pub moves_to_store : List ℕ → ℕ → ℕ
moves_to_store w n = walk_up (parent_of w) 0 (λ m above. suc above) most_actions n

pub moves_to_store_store : (w : List ℕ) → moves_to_store w 0 ≡ 0
unfolding moves_to_store
moves_to_store_store w = walk_store _ _ _ most_actions

pub moves_to_store_step : (w : List ℕ) (n : ℕ) → n ≢ 0 → Climbs w n → moves_to_store w n ≡ suc (moves_to_store w (parent_of w n))
unfolding moves_to_store
moves_to_store_step w n = walk_step _ _ _ most_actions n

-- so a live action is not its own parent
pub live_no_own_parent : {w : List ℕ} → Sound w → (n : ℕ) → IsGiven w n → is_live w n ≡ true → parent_of w n ≢ n
live_no_own_parent {w} s n begun alive own =
    omega (arith, moves_to_store_step w n (λ z. omega arith) (s.climb n begun alive), ap (moves_to_store w) own)

-- ---- the nearest version

pub nearest_store : (w : List ℕ) (k : ℕ) → nearest w 0 k ≡ 0
unfolding nearest
nearest_store w k = walk_store _ _ _ most_actions

module _ (w : List ℕ) (n k : ℕ) where
  pub nearest_step : n ≢ 0 → Climbs w n → nearest w n k ≡ cond (has_card w n k) n (nearest w (parent_of w n) k)
  unfolding nearest
  nearest_step = walk_step _ _ _ most_actions n

-- it is the store, or an action of the table
pub nearest_given : (w : List ℕ) → Sound w → (n k : ℕ) → StoreOrLive w n → nearest w n k ≤ highest w
unfolding nearest
nearest_given w s n k from =
    walk_holds _ _ _ (λ m near. m ≤ highest w → near ≤ highest w)
    (λ h. h)
    (λ m ne near above h.
    cond_holds (λ x. x ≤ highest w) (has_card w m k) (λ e. h) (λ e. above (s.known m (omega arith))))
    most_actions n (sound_climbs s n from) from.0

-- ---- at or below an action

pub at_or_below_store : (w : List ℕ) (a : ℕ) → is_at_or_below w a 0 ≡ false
unfolding is_at_or_below
at_or_below_store w a = walk_store _ _ _ most_actions

module _ (w : List ℕ) where
  pub at_or_below_step : (a m : ℕ) → m ≢ 0 → Climbs w m → is_at_or_below w a m ≡ (eqb m a || is_at_or_below w a (parent_of w m))
  unfolding is_at_or_below
  at_or_below_step a m = walk_step _ _ _ most_actions m

  pub at_or_below_itself : (m : ℕ) → m ≢ 0 → Climbs w m → is_at_or_below w m m ≡ true
  at_or_below_itself m ne up = at_or_below_step m m ne up ∙ or_inl _ (eq-eqb m m refl)

  -- where an action's parent is at or below another, so is the action
  pub not_below_parent :
      (a m : ℕ) → m ≢ 0 → Climbs w m → is_at_or_below w a m ≡ false → is_at_or_below w a (parent_of w m) ≡ false
  not_below_parent a m ne up out = (or_neither (eqb m a) _ (sym (at_or_below_step a m ne up) ∙ out)).1

  -- another table with the same parents
  pub at_or_below_agree :
      (v : List ℕ) → ((m : ℕ) → parent_of v m ≡ parent_of w m) →
      (a m : ℕ) → is_at_or_below v a m ≡ is_at_or_below w a m
  unfolding is_at_or_below
  at_or_below_agree v parents a m = rw (fun_ext parents) refl
