-- The loop's invariant: the record is that after the charges so far. Assumes nothing.
use Rattle.std.proofs.Common.{◌≡◌, ◌≤◌}
use Rattle.charges.specs.List.{charges_in}
use Rattle.charges.specs.Running.{running_after}
use Rattle.charges.proofs.running.running_of.Given as goal

abbrev pub invariant-loop-charge : goal.invariant-loop-charge
invariant-loop-charge l =
    (l.charge-index ≤ charges_in l.list) × (l.running ≡ running_after l.list l.account l.charge-index)
