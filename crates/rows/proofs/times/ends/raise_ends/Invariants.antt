-- `raise_ends` meets its contract: the row at entry, raised for all accounts, is the present one raised for those from `k` on, `k`
-- the account at the loop's head. Assumes nothing.
use Prim.Native.Nat.{◌-◌}
use mathlib.Core.Path.{◌≡◌}
use Rattle.rules.specs.Range.{up_from, fold}
use Rattle.rules.specs.Card.{account_count}
use Rattle.rows.specs.Ends.{raised_end, raised_ends}
use Rattle.rows.proofs.times.ends.raise_ends.Given as goal

abbrev pub invariant-loop-k : goal.invariant-loop-k
invariant-loop-k l = raised_ends l.table l.m l.initial.ends ≡ fold (raised_end l.table l.m) (up_from l.k (account_count - l.k)) l.ends

abbrev pub decreases-loop-k : goal.decreases-loop-k
decreases-loop-k l = account_count - l.k
