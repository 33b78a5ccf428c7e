-- `reaches_store` meets its contract: whether the store is reached from `n` is whether it is from `at`, the action at the loop's
-- head, in the moves that are left. Assumes nothing.
use Prim.Native.Nat.{suc, ◌+◌, ◌-◌}
use native.Mathlib.Omega.{arith}
use mathlib.Core.Path.{◌≡◌, sym}
use Rattle.rules.specs.Table.{most_actions}
use Rattle.rules.proofs.Laws.Climbing.{climbs_store}
use Rattle.ancestry.proofs.WayUp.{way_on, way_ends}
use Rattle.ancestry.proofs.way.reaches_store.Goals as goal

pub returns-then-at-eq-STORE : goal.returns-then-at-eq-STORE
returns-then-at-eq-STORE c = rw (c.loop.invariant.1, c.if-at-eq-STORE.true) (sym (climbs_store _ _))

pub loop-preserved : goal.loop-preserved
loop-preserved c =
    let loop = c.loop in
    let left : most_actions - loop.counter ≡ suc (most_actions - (loop.counter + 1)) = omega arith in
    (omega arith, rw (c.parent_in-at.ensures, loop.invariant.1, left) (way_on _ _ loop.at c.if-at-eq-STORE.false))

pub returns : goal.returns
returns c =
    let none : most_actions - c.loop.counter ≡ 0 = omega arith in
    rw (c.loop.invariant.1, none) (sym (way_ends _ c.loop.at))
