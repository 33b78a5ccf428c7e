-- `copy_down` leaves what all turns leave. The loop's invariant: the ledger is the one at entry with the turns of the accounts
-- from k up. Assumes nothing.
use Prim.Native.Nat.{◌≤◌}
use mathlib.Core.Path.{◌≡◌}
use lib.ListN.{length}
use Rattle.rules.specs.Card.{account_count}
use Rattle.rules.specs.Ledger.{ledger_of}
use Rattle.rules.specs.Commit.{copied_down}
use Rattle.commits.proofs.copy.copy_down.Given as goal

abbrev pub invariant-loop-k : goal.invariant-loop-k
invariant-loop-k l =
    (l.k ≤ account_count)
    × (length l.table ≡ length l.initial.table)
    × (length l.base ≡ length l.initial.base)
    × (length l.shadow ≡ length l.initial.shadow)
    × (ledger_of l.table l.base l.shadow ≡ copied_down (ledger_of l.initial.table l.initial.base l.initial.shadow) l.n l.p l.k)
