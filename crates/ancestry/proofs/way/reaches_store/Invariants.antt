-- `reaches_store` meets its contract: whether the store is reached from `n` is whether it is from `at`, the action at the loop's
-- head, in the moves that are left. Assumes nothing.
use Prim.Native.Nat.{◌-◌, ◌≤◌}
use mathlib.Core.Path.{◌≡◌}
use Rattle.rules.specs.Table.{most_actions, parent_of}
use Rattle.rules.specs.Walk.{climbs}
use Rattle.ancestry.proofs.way.reaches_store.Given as goal

abbrev pub invariant-loop : goal.invariant-loop
invariant-loop l =
    (l.counter ≤ most_actions) × (climbs (parent_of l.table) most_actions l.n ≡ climbs (parent_of l.table) (most_actions - l.counter) l.at)
