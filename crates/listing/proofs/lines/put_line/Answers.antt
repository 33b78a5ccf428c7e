-- `put_line` meets its contract: the place, a space, the answer and a line feed are put, each right behind the one before.
-- Assumes nothing.
use Rattle.listing.specs.Buffer.{line_of}
use Rattle.text.proofs.Texts.{writes_then}
use Rattle.listing.proofs.lines.put_line.Goals as goal

pub returns : goal.returns
unfolding line_of
returns c =
    writes_then
    (writes_then c.put_number.ensures (writes_then c.put_byte.ensures c.put_answer.ensures))
    c.put_byte-2.ensures
