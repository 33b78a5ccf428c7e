-- `join_writes` meets its contract: the entries made from the table at entry are the entries made in place (`Joining`), and
-- of those the accounts from `k` on are left to join in the present table, `k` the account at the loop's head. Assumes
-- nothing.
use Prim.Native.Nat.{◌≤◌, ◌-◌}
use mathlib.Core.Path.{◌≡◌}
use lib.ListN.{length}
use Rattle.rules.specs.Card.{accounts, account_count}
use Rattle.rules.specs.Range.{up_from, fold}
use Rattle.rules.specs.Table.{with_fields, write_field, with_write}
use Rattle.rules.specs.Commit.{joined_write}
use Rattle.rows.proofs.join.join_writes.Given as goal

abbrev pub invariant-loop-k : goal.invariant-loop-k
invariant-loop-k l =
    (l.k ≤ account_count)
    × (length l.table ≡ length l.initial.table)
    × (with_fields l.initial.table l.p write_field accounts (joined_write l.initial.table l.n l.p)
    ≡ fold (λ k now. with_write now l.p k (joined_write now l.n l.p k)) (up_from l.k (account_count - l.k)) l.table)

abbrev pub decreases-loop-k : goal.decreases-loop-k
decreases-loop-k l = account_count - l.k
