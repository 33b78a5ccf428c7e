-- `next_record` meets its contract. The loop's invariant: `next` is the next record among those with a number from `m` on, and
-- where there is one it is a child of `p`. Assumes nothing.
use Prim.Native.Nat.{◌≤◌}
use mathlib.Core.Path.{◌≡◌}
use Rattle.rules.specs.Search.{next_after}
use Rattle.rows.specs.Row.{numbered}
use Rattle.rows.specs.Times.{number_in}
use Rattle.validation.specs.NextRecord.{IsChildOrNone}
use Rattle.validation.proofs.ClashSearch.{records_from}
use Rattle.validation.proofs.records.next_record.Given as goal

abbrev pub invariant-loop-m : goal.invariant-loop-m
invariant-loop-m l =
    (1 ≤ l.m)
    × IsChildOrNone l.table l.p l.next
    × (l.next ≡ numbered (next_after l.table (number_in l.t) (records_from l.table l.p l.m)))
