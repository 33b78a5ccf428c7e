-- `next_number` meets its contract: the lowest free number of all that were given is the lowest from `m` on, `m` the number at
-- the loop's head, and the test decides `m` itself; where there is none, the highest number decides. Assumes nothing.
use Prim.Native.Nat.{◌+◌, ◌-◌, ◌≤◌}
use mathlib.Core.Path.{◌≡◌}
use Rattle.rules.specs.Range.{up_from}
use Rattle.rules.specs.Table.{highest, actions}
use Rattle.rules.specs.Free.{first_free}
use Rattle.numbers.proofs.free.next_number.Given as goal

abbrev pub invariant-loop-m : goal.invariant-loop-m
invariant-loop-m l =
    (1 ≤ l.m) × (l.m ≤ l.m-end) × (l.m-end ≡ highest l.table + 1)
    × (first_free l.table (actions l.table) ≡ first_free l.table (up_from l.m (l.m-end - l.m)))

abbrev pub decreases-loop-m : goal.decreases-loop-m
decreases-loop-m l = l.m-end - l.m
