-- `is_under` meets its contract: every action is below the store, a topaction below nothing else, and any other parent is looked
-- for from the action's own on up. Assumes nothing.
use native.Mathlib.Omega.{arith}
use mathlib.Core.Path.{sym, ◌∙◌}
use borrow.Author.Tests.{eq-eqb, ne_eqb}
use Rattle.rules.specs.Table.{most_actions}
use Rattle.rules.specs.Walk.{is_under}
use Rattle.rules.proofs.Laws.Climbing.{climbs_above}
use Rattle.rules.proofs.Laws.Walking.{at_or_below_store}
use Rattle.ancestry.proofs.under.is_under.Goals as goal

pub returns-then-p-eq-STORE : goal.returns-then-p-eq-STORE
unfolding is_under
returns-then-p-eq-STORE c = rw (eq-eqb _ 0 c.if-p-eq-STORE.true)

pub returns-then-above-eq-STORE : goal.returns-then-above-eq-STORE
unfolding is_under
returns-then-above-eq-STORE c =
    rw (ne_eqb _ 0 c.if-p-eq-STORE.false, sym c.parent-above.ensures ∙ c.if-above-eq-STORE.true, at_or_below_store)

pub is_at_or_below-requires : goal.is_at_or_below-requires
is_at_or_below-requires c =
    let x = c.args.x in
    let (given, live) = c.requires.live_action in
    let action = c.if-above-eq-STORE.false in
    rw c.parent-above.ensures record { live_climb = c.requires.live_climb; given = (omega (arith, c.parent-above.ensures), c.requires.live_climb.known x given); climbs = climbs_above _ most_actions x (λ z. omega arith) (c.requires.live_climb.climb x given live) }

pub returns : goal.returns
unfolding is_under
returns c =
    rw (ne_eqb _ 0 c.if-p-eq-STORE.false, ← c.parent-above.ensures) c.is_at_or_below.ensures
