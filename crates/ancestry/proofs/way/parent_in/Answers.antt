-- `parent_in` meets its contract: behind the last row there is no parent. Assumes nothing.
use mathlib.Core.Path.{sym}
use Rattle.ancestry.proofs.WayUp.{parent_behind}
use Rattle.ancestry.proofs.way.parent_in.Goals as goal

pub returns-then-n-gt-MOST_ACTIONS : goal.returns-then-n-gt-MOST_ACTIONS
returns-then-n-gt-MOST_ACTIONS c =
    sym (parent_behind c.args.table.now c.args.n c.requires.long c.if-n-gt-MOST_ACTIONS.true)
