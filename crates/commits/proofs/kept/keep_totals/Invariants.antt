-- `keep_totals` meets its contract: of the sums made from the table at entry those of the accounts from `k` on are left to put
-- into the present table, `k` the account at the loop's head; and the present table makes the same ones (`Keeping`).
-- Assumes nothing.
use Prim.Native.Nat.{◌≤◌, ◌-◌}
use mathlib.Core.Path.{◌≡◌}
use lib.ListN.{length}
use Rattle.rules.specs.Card.{account_count, first_charge}
use Rattle.rules.specs.Amount.{amount_word}
use Rattle.rules.specs.Range.{up_from, fold}
use Rattle.rules.specs.Table.{with_kept, kept_after}
use Rattle.rules.specs.Commit.{keep_table}
use Rattle.commits.proofs.Keeping.{SameFrom}
use Rattle.commits.proofs.kept.keep_totals.Given as goal

abbrev pub invariant-loop-k : goal.invariant-loop-k
invariant-loop-k l =
    (first_charge ≤ l.k)
    × (l.k ≤ account_count)
    × (length l.table ≡ length l.initial.table)
    × SameFrom l.initial.table l.n l.p l.k l.table
    × (keep_table l.initial.table l.n l.p
    ≡ fold (λ j now. with_kept now l.p j (amount_word (kept_after l.initial.table l.n l.p j))) (up_from l.k (account_count - l.k)) l.table)

abbrev pub decreases-loop-k : goal.decreases-loop-k
decreases-loop-k l = account_count - l.k
