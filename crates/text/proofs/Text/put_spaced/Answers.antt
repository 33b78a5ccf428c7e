-- `put_spaced` meets its contract: the space is put, and the number right behind it. Assumes nothing.
use Rattle.text.proofs.Texts.{writes_then}
use Rattle.text.proofs.Text.put_spaced.Goals as goal

pub returns : goal.returns
returns c = writes_then c.put_byte.ensures c.put_number.ensures
