-- `put_line` meets its contract: the account, the cents, the old total and a line feed are put, each right behind the one before.
-- Assumes nothing.
use Rattle.text.proofs.Texts.{writes_then}
use Rattle.charges.specs.Column.{account_line}
use Rattle.charges.proofs.column.put_line.Goals as goal

pub returns : goal.returns
unfolding account_line
returns c =
    writes_then (writes_then (writes_then c.put_number.ensures c.put_cents.ensures) c.put_old.ensures) c.put_byte.ensures
