-- `put_refused` meets its contract: the word, the number with its space and a line feed are put, each right behind the one
-- before. Assumes nothing.
use Rattle.text.proofs.Texts.{writes_then}
use Rattle.text.proofs.Text.put_refused.Goals as goal

pub returns : goal.returns
returns c = writes_then c.put_text.ensures (writes_then c.put_spaced.ensures c.put_byte.ensures)
