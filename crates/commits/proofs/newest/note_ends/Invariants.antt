-- `note_ends` meets its contract: of the end times to note by the table at entry those of the accounts from `k` on are left to put
-- into the present table, `k` the account at the loop's head; by the present table they are the same, and n is a child of p there too
-- (`Noting`). Assumes nothing.
use Prim.Native.Nat.{◌≤◌, ◌-◌}
use mathlib.Core.Path.{◌≡◌}
use lib.ListN.{length}
use Rattle.rules.specs.Card.{account_count}
use Rattle.rules.specs.Range.{up_from, fold}
use Rattle.rules.specs.Table.{with_newest}
use Rattle.rules.specs.Commit.{newest_after, note_table}
use Rattle.rows.specs.Times.{IsChild}
use Rattle.commits.proofs.Noting.{SameNotes}
use Rattle.commits.proofs.newest.note_ends.Given as goal

abbrev pub invariant-loop-k : goal.invariant-loop-k
invariant-loop-k l =
    (l.k ≤ account_count)
    × (length l.table ≡ length l.initial.table)
    × IsChild l.table l.n l.p
    × SameNotes l.initial.table l.n l.p l.k l.table
    × (note_table l.initial.table l.n l.p
    ≡ fold (λ j now. with_newest now l.p j (newest_after l.initial.table l.n l.p j)) (up_from l.k (account_count - l.k)) l.table)

abbrev pub decreases-loop-k : goal.decreases-loop-k
decreases-loop-k l = account_count - l.k
