-- `is_at_or_below` meets its contract. The loop's invariant: the action it has come to is at or below `a` exactly
-- where `m` is, and from there the store is reached. The measure is the moves left to the store. Assumes nothing.
use Prim.Native.Nat.{◌≤◌}
use mathlib.Core.Path.{◌≡◌}
use Rattle.rules.specs.Table.{highest}
use Rattle.rules.specs.Walk.{Climbs, is_at_or_below}
use Rattle.rules.proofs.Laws.Walking.{moves_to_store}
use Rattle.ancestry.proofs.walk.is_at_or_below.Given as goal

abbrev pub invariant-loop-at : goal.invariant-loop-at
invariant-loop-at l = (l.at ≤ highest l.table) × Climbs l.table l.at × (is_at_or_below l.table l.a l.m ≡ is_at_or_below l.table l.a l.at)

abbrev pub decreases-loop-at : goal.decreases-loop-at
decreases-loop-at l = moves_to_store l.table l.at
