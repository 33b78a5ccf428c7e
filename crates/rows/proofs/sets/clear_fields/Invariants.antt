-- `clear_fields` meets its contract: the fields of the accounts from `from` on, cleared in the table at entry, are those of the
-- accounts from `k` on cleared in the present table, `k` the account at the loop's head. Assumes nothing.
use Prim.Native.Nat.{◌+◌, ◌≤◌, ◌-◌}
use mathlib.Core.Path.{◌≡◌}
use lib.ListN.{length}
use Rattle.rules.specs.Card.{account_count}
use Rattle.rules.specs.Range.{up_from, fold}
use Rattle.rules.specs.Table.{with_word, with_fields}
use Rattle.rows.specs.Row.{accounts_from}
use Rattle.rows.proofs.sets.clear_fields.Given as goal

abbrev pub invariant-loop-k : goal.invariant-loop-k
invariant-loop-k l =
    (l.k ≤ account_count)
    × (length l.table ≡ length l.initial.table)
    × (with_fields l.initial.table l.n (λ k. l.first + k) (accounts_from l.from) (λ k. 0)
    ≡ fold (λ k now. with_word now l.n (l.first + k) 0) (up_from l.k (account_count - l.k)) l.table)

abbrev pub decreases-loop-k : goal.decreases-loop-k
decreases-loop-k l = account_count - l.k
