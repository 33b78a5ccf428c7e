-- The measure is the moves left to the store. Assumes nothing.
use Rattle.rules.proofs.Laws.Walking.{moves_to_store}
use Rattle.ancestry.proofs.walk.+climb.Given as goal

abbrev pub decreases-climb : goal.decreases-climb
decreases-climb l = moves_to_store l.table.now l.n
