-- `put_old` meets its contract: the space is put, and the bits right behind it. Assumes nothing.
use Rattle.text.proofs.Texts.{writes_then}
use Rattle.charges.specs.Column.{old_text}
use Rattle.charges.proofs.column.put_old.Goals as goal

pub returns : goal.returns
unfolding old_text
returns c = writes_then c.put_byte.ensures c.put_hexadecimal.ensures
