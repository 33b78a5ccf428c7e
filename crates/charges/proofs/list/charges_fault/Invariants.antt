-- The loop's invariant: the fault of all charges is that of those from the next one on. Assumes nothing.
use Rattle.std.proofs.Common.{◌≡◌, ◌-◌, ◌≤◌}
use Rattle.charges.specs.List.{charges_in, charges_fault}
use Rattle.charges.proofs.list.charges_fault.Given as goal

abbrev pub invariant-loop-charge : goal.invariant-loop-charge
invariant-loop-charge l =
    let count = charges_in l.list in
    (l.charge-index ≤ count) × (charges_fault l.list 0 count ≡ charges_fault l.list l.charge-index (count - l.charge-index))
