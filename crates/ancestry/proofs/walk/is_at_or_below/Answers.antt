-- `is_at_or_below` meets its contract. The loop's invariant: the action it has come to is at or below `a` exactly
-- where `m` is, and from there the store is reached. The measure is the moves left to the store. Assumes nothing.
use native.Mathlib.Omega.{arith}
use mathlib.Core.Path.{refl, sym}
use borrow.Author.Tests.{eq-eqb, ne_eqb}
use Rattle.rules.specs.Table.{most_actions}
use Rattle.rules.proofs.Laws.Climbing.{climbs_above}
use Rattle.rules.proofs.Laws.Walking.{moves_to_store_step, at_or_below_store, at_or_below_step}
use Rattle.ancestry.proofs.walk.is_at_or_below.Goals as goal

pub loop-at-init : goal.loop-at-init
loop-at-init c = (c.requires.given.1, c.requires.climbs, refl)

pub returns-then-at-a : goal.returns-then-at-a
returns-then-at-a c =
    let loop = c.loop-at in
    rw (
      loop.invariant.2,
      at_or_below_step _ c.args.a loop.at (λ z. omega arith) loop.invariant.1,
      eq-eqb _ _ c.if-at-a.true,
    )

pub loop-at-smaller : goal.loop-at-smaller
loop-at-smaller c =
    let loop = c.loop-at in
    rw c.parent-at.ensures
    (omega (arith, moves_to_store_step c.args.table.now loop.at (λ z. omega arith) loop.invariant.1))

pub loop-at-preserved : goal.loop-at-preserved
loop-at-preserved c =
    let loop = c.loop-at in
    rw c.parent-at.ensures (
      c.requires.live_climb.known loop.at (omega arith),
      climbs_above _ most_actions loop.at (λ z. omega arith) loop.invariant.1,
      rw (
        loop.invariant.2,
        at_or_below_step _ c.args.a loop.at (λ z. omega arith) loop.invariant.1,
        ne_eqb _ _ c.if-at-a.false,
      ),
    )

pub returns : goal.returns
returns c = rw (c.loop-at.invariant.2, c.loop-at-test.false) (sym (at_or_below_store _ _))
