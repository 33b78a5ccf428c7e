-- `seen_by` meets its contract. The loop's invariant: the walk has come to `at`, with the pending sums before it summed up
-- (`Summed`). The measure is the moves left to the store. Assumes nothing.
use Rattle.rules.proofs.Laws.Walking.{moves_to_store}
use Rattle.ancestry.proofs.Summing.{Summed}
use Rattle.ancestry.proofs.charge.seen_by.Given as goal

abbrev pub invariant-loop-at : goal.invariant-loop-at
invariant-loop-at l = Summed l.table l.base l.n l.k l.at l.moves l.sum

abbrev pub decreases-loop-at : goal.decreases-loop-at
decreases-loop-at l = moves_to_store l.table l.at
