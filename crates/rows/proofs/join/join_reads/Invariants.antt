-- `join_reads` meets its contract: the reads made from the table at entry are the reads made in place (`Joining`), and of those
-- the accounts from `k` on are left to join in the present table, `k` the account at the loop's head. Assumes nothing.
use Prim.Native.Nat.{◌≤◌, ◌-◌}
use mathlib.Core.Path.{◌≡◌}
use lib.ListN.{length}
use Rattle.rules.specs.Card.{account_count}
use Rattle.rules.specs.Range.{up_from, fold}
use Rattle.rules.specs.Table.{with_reads}
use Rattle.rules.specs.Commit.{joined_read, joined_time}
use Rattle.rows.specs.Times.{with_joined_read}
use Rattle.rows.proofs.join.join_reads.Given as goal

abbrev pub invariant-loop-k : goal.invariant-loop-k
invariant-loop-k l =
    (l.k ≤ account_count)
    × (length l.table ≡ length l.initial.table)
    × (with_reads l.initial.table l.p (joined_read l.initial.table l.n l.p) (joined_time l.initial.table l.n l.p)
    ≡ fold (λ k now. with_joined_read now l.n l.p k) (up_from l.k (account_count - l.k)) l.table)

abbrev pub decreases-loop-k : goal.decreases-loop-k
decreases-loop-k l = account_count - l.k
