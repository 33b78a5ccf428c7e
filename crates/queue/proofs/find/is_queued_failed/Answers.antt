-- `is_queued_failed` meets its contract: it asks the verdict at the action's position, if it has one. Assumes nothing.
use mathlib.Core.Path.{sym}
use Prim.Native.Nat.{◌≤◌}
use borrow.Author.Rules.{rules}
use Rattle.rules.specs.Queue.{entry_at, has_failed, is_queued_failed}
use Rattle.rows.proofs.Numbered.{found_at, found_some, found_none}
use Rattle.queue.proofs.Positions.{found_few, unplaced, placed}
use Rattle.queue.proofs.find.is_queued_failed.Goals as goal

pub entry_verdict-requires : goal.entry_verdict-requires
entry_verdict-requires c =
    let few : _ ≤ _ = found_few _ _ c.args.n c.in-Some.ensures in
    search rules

pub returns-in-Some : goal.returns-in-Some
unfolding is_queued_failed entry_at
returns-in-Some c =
    rw (c.entry_verdict.ensures, c.from.ensures, ← found_at c.in-Some.ensures)
    (sym (placed _ _ _ has_failed c.requires.stands_once (found_some c.in-Some.ensures)))

pub returns-in-None : goal.returns-in-None
unfolding is_queued_failed
returns-in-None c = sym (unplaced _ _ _ has_failed (found_none c.in-None.ensures))
