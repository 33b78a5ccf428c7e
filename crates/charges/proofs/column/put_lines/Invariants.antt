-- The loop's invariant: the lines of the accounts so far are put. Assumes nothing.
use Rattle.std.proofs.Common.{◌-◌, ◌≤◌}
use Rattle.rules.specs.Card.{first_charge, account_count}
use Rattle.text.specs.Put.{Writes}
use Rattle.charges.specs.Column.{account_lines}
use Rattle.charges.proofs.column.put_lines.Given as goal

abbrev pub invariant-loop-account : goal.invariant-loop-account
invariant-loop-account l =
    (first_charge ≤ l.account)
    × (l.account ≤ account_count)
    × Writes l.initial.text l.text (account_lines l.list (l.account - first_charge))
