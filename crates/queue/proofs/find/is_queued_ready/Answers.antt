-- `is_queued_ready` meets its contract: it asks the readiness at the action's position, if it has one. Assumes nothing.
use mathlib.Core.Path.{sym}
use Prim.Native.Nat.{◌≤◌}
use borrow.Author.Rules.{rules}
use Rattle.rules.specs.Queue.{entry_at, is_ready, is_queued_ready}
use Rattle.rows.proofs.Numbered.{found_at, found_some, found_none}
use Rattle.queue.proofs.Positions.{found_few, unplaced, placed}
use Rattle.queue.proofs.find.is_queued_ready.Goals as goal

pub entry_readiness-requires : goal.entry_readiness-requires
entry_readiness-requires c =
    let few : _ ≤ _ = found_few _ _ c.args.n c.in-Some.ensures in
    search rules

pub returns-in-Some : goal.returns-in-Some
unfolding is_queued_ready entry_at
returns-in-Some c =
    rw (c.entry_readiness.ensures, ← found_at c.in-Some.ensures)
    (sym (placed _ _ _ is_ready c.requires.stands_once (found_some c.in-Some.ensures)))

pub returns-in-None : goal.returns-in-None
unfolding is_queued_ready
returns-in-None c = sym (unplaced _ _ _ is_ready (found_none c.in-None.ensures))
