-- `climb` meets its contract: the nearest version is the store's at 0, the action's own where it has a card for the account,
-- and else its parent's, one move further up. Assumes nothing.
use Prim.Native.Nat.{ℕ, suc, ◌+◌}
use native.Mathlib.Nat.{add-zero}
use native.Mathlib.Omega.{arith}
use mathlib.Core.Path.{◌≡◌, sym, ap, ◌∙◌}
use mathlib.Core.Bool.{true, false}
use mathlib.Core.List.{List}
use Rattle.rules.specs.Card.{IsPlain}
use Rattle.rules.specs.Table.{parent_of, has_written}
use Rattle.rules.specs.Walk.{Climbs}
use Rattle.rules.specs.Sound.{IsGiven}
use Rattle.rules.specs.Nearest.{moves_up, version}
use Rattle.rules.proofs.Laws.Walking.{parent_store_or_live, sound_climbs, moves_to_store_step, nearest_store}
use Rattle.rules.proofs.Laws.Charges.{has_card_below}
use Rattle.rules.proofs.Laws.Versions.{moves_up_store, version_own, version_above}
use Rattle.ancestry.specs.Ancestry.{Readable, counted_on}
use Rattle.ancestry.proofs.walk.+climb.Goals as goal

-- the version seen from an action, with some moves made before: its own where it has a card for the account, and else its
-- parent's, with one move more
module _ (w : List ℕ) (n k made : ℕ) (plain : IsPlain k) (own : IsGiven w n) (up : Climbs w n) where
  own_version : has_written w n k ≡ true → counted_on made (version w n k) ≡ record { holder = n; moves = made }
  own_version held =
      let held_card = has_card_below w n k plain ∙ held in
      ap (counted_on made) (version_own w k n (λ z. omega arith) up held_card) ∙ rw add-zero

  parent_version : has_written w n k ≡ false → counted_on made (version w n k) ≡ counted_on (made + 1) (version w (parent_of w n) k)
  parent_version without =
      let one_more : made + suc (moves_up w (parent_of w n) k) ≡ made + 1 + moves_up w (parent_of w n) k = omega arith in
      let without_card = has_card_below w n k plain ∙ without in
      ap (counted_on made) (version_above w k n (λ z. omega arith) up without_card) ∙ rw one_more

module _ {w : List ℕ} {n k : ℕ} (can : Readable w n k) where
  reaches : Climbs w n
  reaches = sound_climbs can.sound n (can.known, can.alive)

  parent_readable : IsGiven w n → Readable w (parent_of w n) k
  parent_readable own =
      let above = parent_store_or_live can.sound n own (can.alive own.0) in
      record { sound = can.sound; known = above.0; alive = above.1; account = can.account }

-- at an action that has no card for the account
above_of : (w : List ℕ) (n k made p : ℕ) → Readable w n k → IsPlain k → IsGiven w n → has_written w n k ≡ false →
    p ≡ parent_of w n → counted_on made (version w n k) ≡ counted_on (made + 1) (version w p k)
above_of w n k made p can plain own without is =
    rw is (parent_version w n k made plain own (reaches can) without)

pub returns-then-n-eq-STORE : goal.returns-then-n-eq-STORE
returns-then-n-eq-STORE t c = rw (c.if-n-eq-STORE.true, nearest_store, moves_up_store, add-zero)

pub returns-then-has_written : goal.returns-then-has_written
returns-then-has_written t c =
    sym (own_version _ _ _ _ c.requires.plain (omega arith) (reaches c.requires.readable)
    (sym c.has_written.ensures ∙ c.if-has_written.true))

pub overflow_add-moves : goal.overflow_add-moves
overflow_add-moves t c =
    let above = above_of _ _ _ c.args.moves _ c.requires.readable c.requires.plain (omega arith)
    (sym c.has_written.ensures ∙ c.if-has_written.false) c.parent.ensures in
    omega (arith, ap (λ v. v.moves) above)

pub climb-requires : goal.climb-requires
climb-requires t c =
    let can = c.requires.readable in
    let above = above_of _ _ _ c.args.moves _ can c.requires.plain (omega arith)
    (sym c.has_written.ensures ∙ c.if-has_written.false) c.parent.ensures in
    let step = moves_to_store_step c.args.table.now c.args.n (λ z. omega arith) (reaches can) in (
      rw c.parent.ensures (omega (arith, step)),
      (
        rw c.parent.ensures (parent_readable can (omega arith)),
        (c.requires.plain, omega (arith, ap (λ v. v.moves) above)),
      ),
    )

pub returns : goal.returns
returns t c =
    c.climb.ensures
    ∙ sym (above_of _ _ _ c.args.moves _ c.requires.readable c.requires.plain (omega arith)
    (sym c.has_written.ensures ∙ c.if-has_written.false) c.parent.ensures)
