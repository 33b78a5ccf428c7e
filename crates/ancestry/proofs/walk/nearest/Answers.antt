-- `nearest` meets its contract: it climbs with no moves made yet, and as many are left as there can be actions.
-- Assumes nothing.
use native.Mathlib.Nat.{zero-add}
use native.Mathlib.Omega.{arith}
use mathlib.Core.Path.{◌∙◌}
use Rattle.rules.proofs.Laws.Versions.{moves_up_at_most}
use Rattle.ancestry.proofs.walk.nearest.Goals as goal

pub climb-requires-clause-readable : goal.climb-requires-clause-readable
climb-requires-clause-readable c = c.requires.readable

pub climb-requires-clause-plain : goal.climb-requires-clause-plain
climb-requires-clause-plain c = c.requires.plain

pub climb-requires-clause-has_moves_left : goal.climb-requires-clause-has_moves_left
climb-requires-clause-has_moves_left c = omega (arith, moves_up_at_most c.args.table.now c.args.k c.args.n)

pub returns : goal.returns
returns c = c.climb.ensures ∙ rw zero-add
