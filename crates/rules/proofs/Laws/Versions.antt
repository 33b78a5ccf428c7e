-- The moves up to the nearest version: how they follow from the action and its parent, that they are at most as many as there
-- are actions, and what they mean. Assumes nothing.
use Prim.Native.Nat.{ℕ, zero, suc, ◌+◌, ◌≤◌, ◌<◌}
use native.Mathlib.Omega.{arith}
use mathlib.Core.Path.{◌≡◌, refl, sym, ap, ap₂, subst, ◌∙◌}
use mathlib.Core.Logic.{◌≢◌}
use mathlib.Core.Bool.{Bool, true, false, cond, true≢false}
use mathlib.Core.List.{List}
use Rattle.rules.specs.declared.Version.{Version}
use Rattle.rules.specs.Table.{most_actions, parent_of, has_card}
use Rattle.rules.specs.Walk.{Climbs}
use Rattle.rules.specs.Nearest.{nearest, moves_up, version, climbed, IsNearest}
use Rattle.rules.specs.Sound.{StoreOrLive, Sound}
use Rattle.rules.proofs.Laws.Tests.{cond_holds}
use Rattle.rules.proofs.Laws.Walking.{walk_store, walk_step, walk_counts, climb_holds, sound_climbs, moves_to_store, moves_to_store_store, moves_to_store_step, nearest_store, nearest_step}

module _ (w : List ℕ) (k : ℕ) where
  pub moves_up_store : moves_up w 0 k ≡ 0
  unfolding moves_up
  moves_up_store = walk_store _ _ _ most_actions

  pub moves_up_step : (n : ℕ) → n ≢ 0 → Climbs w n → moves_up w n k ≡ cond (has_card w n k) 0 (suc (moves_up w (parent_of w n) k))
  unfolding moves_up
  moves_up_step n = walk_step _ _ _ most_actions n

  pub moves_up_at_most : (n : ℕ) → moves_up w n k ≤ most_actions
  unfolding moves_up
  moves_up_at_most =
      walk_counts _ _ (λ m above. cond_holds (λ x. x ≤ suc above) (has_card w m k) (λ _. omega arith) (λ _. omega arith))
      most_actions

  -- the version seen from an action that has a card of its own for the account, and from one that has none
  pub version_own : (n : ℕ) → n ≢ 0 → Climbs w n → has_card w n k ≡ true → version w n k ≡ record { holder = n; moves = 0 }
  version_own n ne up own = rw (nearest_step w n k ne up, moves_up_step n ne up, own)

  pub version_above :
      (n : ℕ) → n ≢ 0 → Climbs w n → has_card w n k ≡ false →
      version w n k ≡ record { holder = nearest w (parent_of w n) k; moves = suc (moves_up w (parent_of w n) k) }
  version_above n ne up without = rw (nearest_step w n k ne up, moves_up_step n ne up, without)

  -- What holds of the store's version, of an action's own, and of the parent's one move further up where it holds of the
  -- parent's, holds of every version.
  version_holds :
      (P : ℕ → Version → Type 0) →
      P 0 (record { holder = 0; moves = 0 }) →
      ((n : ℕ) → has_card w n k ≡ true → P n (record { holder = n; moves = 0 })) →
      ((n : ℕ) → n ≢ 0 → Climbs w n → has_card w n k ≡ false → (v : Version) → P (parent_of w n) v →
      P n (record { holder = v.holder; moves = suc v.moves })) →
      (n : ℕ) → Climbs w n → P n (version w n k)
  version_holds P store own above = climb_holds w (λ n. P n (version w n k)) at_store action
    where
      at_store : P 0 (version w 0 k)
      at_store = rw (nearest_store w k, moves_up_store) store

      action : (n : ℕ) → n ≢ 0 → Climbs w n → P (parent_of w n) (version w (parent_of w n) k) → P n (version w n k)
      action n ne up parent = by_card (has_card w n k) refl
        where
          by_card : (b : Bool) → has_card w n k ≡ b → P n (version w n k)
          by_card true is = subst (P n) (sym (version_own n ne up is)) (own n is)
          by_card false is = subst (P n) (sym (version_above n ne up is)) (above n ne up is _ parent)

-- ---- what the moves mean

module _ {w : List ℕ} {k : ℕ} where
  store_nearest : IsNearest w 0 k (record { holder = 0; moves = 0 })
  unfolding climbed
  store_nearest = record { leads = refl; holds = λ action. absurd (action refl); fewer = λ m h. absurd (omega arith) }

  own_nearest : (n : ℕ) → has_card w n k ≡ true → IsNearest w n k (record { holder = n; moves = 0 })
  unfolding climbed
  own_nearest n own = record { leads = refl; holds = λ _. own; fewer = λ m h. absurd (omega arith) }

  above_nearest :
      (n : ℕ) → n ≢ 0 → has_card w n k ≡ false → (v : Version) → IsNearest w (parent_of w n) k v →
      IsNearest w n k (record { holder = v.holder; moves = suc v.moves })
  unfolding climbed
  above_nearest n ne without v near = record { leads = near.leads; holds = near.holds; fewer = fewer }
    where
      fewer : (m : ℕ) → m < suc v.moves → (climbed w m n ≢ 0) × (has_card w (climbed w m n) k ≡ false)
      fewer zero h = (ne, without)
      fewer (suc m) h = near.fewer m (omega arith)

-- RULES 3.1: on a sound table, seen from the store or any live action, the version is the nearest by its meaning
pub version_nearest : (w : List ℕ) → Sound w → (n k : ℕ) → StoreOrLive w n → IsNearest w n k (version w n k)
version_nearest w s n k from =
    version_holds w k (λ m v. IsNearest w m k v) store_nearest own_nearest
    (λ m ne _. above_nearest m ne)
    n (sound_climbs s n from)

fewer_not_nearest : {w : List ℕ} {n k : ℕ} {v u : Version} → IsNearest w n k v → IsNearest w n k u → u.moves < v.moves → ⊥
fewer_not_nearest {w} {n} {k} {v} {u} a b less =
    let past = a.fewer u.moves less in
    let here : (u.holder ≢ 0) × (has_card w u.holder k ≡ false) = rw b.leads at past in
    true≢false (sym (b.holds here.0) ∙ here.1)

-- and there is no other: of two such versions neither has fewer moves, so both lead to the same holder
pub nearest_unique : {w : List ℕ} {n k : ℕ} {v u : Version} → IsNearest w n k v → IsNearest w n k u → v ≡ u
nearest_unique {w} {n} {k} {v} {u} a b =
    let same : v.moves ≡ u.moves = omega (arith, fewer_not_nearest a b, fewer_not_nearest b a) in
    let holders = sym a.leads ∙ ap (λ m. climbed w m n) same ∙ b.leads in
    ap₂ (λ h m. record { holder = h; moves = m }) holders same

-- ---- the moves up to the store

module _ (w : List ℕ) (k : ℕ) where
  -- so many moves up an action lies that much less deep
  moves_and_rest : (n : ℕ) → Climbs w n → moves_up w n k + moves_to_store w (nearest w n k) ≡ moves_to_store w n
  moves_and_rest =
      version_holds w k (λ n v. v.moves + moves_to_store w v.holder ≡ moves_to_store w n)
      (omega arith)
      (λ n _. omega arith)
      (λ n ne up _ v above. omega (arith, above, moves_to_store_step w n ne up))

  -- RULES 3.1: to the base card it is as many moves up as the action lies deep
  pub moves_to_base : (n : ℕ) → Climbs w n → nearest w n k ≡ 0 → moves_up w n k ≡ moves_to_store w n
  moves_to_base n up base = omega (arith, ap (moves_to_store w) base, moves_to_store_store w, moves_and_rest n up)
