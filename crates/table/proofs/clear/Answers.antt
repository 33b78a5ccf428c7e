-- `clear` leaves a new table: zeros in every word. Assumes nothing.
use mathlib.Core.Path.{◌∙◌}
use Rattle.rules.specs.Table.{new_table}
use Rattle.table.proofs.clear.Goals as goal

pub returns : goal.returns
unfolding new_table
returns c = c.fill.ensures.after (λ y same. same) ∙ rw c.requires
