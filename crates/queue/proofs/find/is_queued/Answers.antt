-- `is_queued` meets its contract: a queued action has a position. Assumes nothing.
use mathlib.Core.Path.{sym}
use Rattle.rows.proofs.Numbered.{found_is}
use Rattle.queue.proofs.Positions.{queued_position}
use Rattle.queue.proofs.find.is_queued.Goals as goal

pub returns : goal.returns
returns c = rw (c.is_some.ensures, c.position_of.ensures, found_is) (sym (queued_position _ _ _))
