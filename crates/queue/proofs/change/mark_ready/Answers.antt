-- `mark_ready` meets its contract: the entry at the action's position is put anew, and the others are put again as they stand
-- (`Putting`). Assumes nothing.
use mathlib.Core.Path.{sym}
use Prim.Native.Nat.{◌≤◌}
use borrow.Author.Rules.{rules}
use Rattle.rows.proofs.Numbered.{found_at, found_some, found_none}
use Rattle.queue.proofs.Positions.{found_few}
use Rattle.queue.proofs.Putting.{unplaced_ready, placed_ready}
use Rattle.queue.proofs.change.mark_ready.Goals as goal

pub entry_verdict-verdict-requires : goal.entry_verdict-verdict-requires
entry_verdict-verdict-requires c =
    let few : _ ≤ _ = found_few _ _ c.args.n c.in-Some.ensures in
    search rules

pub put_entry-requires : goal.put_entry-requires
put_entry-requires c =
    let few : _ ≤ _ = found_few _ _ c.args.n c.in-Some.ensures in
    search rules

pub returns-in-Some : goal.returns-in-Some
returns-in-Some c =
    rw (c.put_entry.ensures, c.entry_verdict-verdict.ensures, ← found_at c.in-Some.ensures)
    (sym (placed_ready _ _ _ c.requires.has_line.known c.requires.stands_once (found_some c.in-Some.ensures)))

pub returns-in_default : goal.returns-in_default
returns-in_default c = sym (unplaced_ready _ _ _ (found_none c.in_default.ensures))
