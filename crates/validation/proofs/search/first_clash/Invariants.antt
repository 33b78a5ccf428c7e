-- `first_clash` meets its contract. The outer loop's invariant: `last` is a time of the action's kind, and the search has come to
-- the records with end times above it; the measure is what is left above it of that kind's counter. The inner loop's: the search
-- has come to account `k` of record `m`. Assumes nothing.
use Prim.Native.Nat.{◌-◌, ◌≤◌}
use mathlib.Core.Path.{◌≡◌}
use Rattle.rules.specs.Card.{account_count}
use Rattle.rules.specs.Table.{counter, kind_of}
use Rattle.rules.specs.Clash.{first_clash}
use Rattle.rules.proofs.Clash.Searching.{search_after}
use Rattle.rows.specs.Times.{kind_in, number_in}
use Rattle.validation.proofs.ClashSearch.{search_from}
use Rattle.validation.proofs.search.first_clash.Given as goal

abbrev pub invariant-loop-k : goal.invariant-loop-k
invariant-loop-k l =
    (l.k ≤ account_count) × (first_clash l.table l.n ≡ search_from l.table l.n l.m (search_after l.table l.n (number_in l.last)) l.k)

abbrev pub decreases-loop-k : goal.decreases-loop-k
decreases-loop-k l = account_count - l.k

abbrev pub invariant-records : goal.invariant-records
invariant-records l = (kind_in l.last ≡ kind_of l.table l.n) × (first_clash l.table l.n ≡ search_after l.table l.n (number_in l.last))

abbrev pub decreases-records : goal.decreases-records
decreases-records l = counter l.table (kind_of l.table l.n) - number_in l.last
