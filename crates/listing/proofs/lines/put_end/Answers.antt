-- `put_end` meets its contract: the word, three numbers and a line feed are put, each right behind the one before. Assumes
-- nothing.
use Rattle.text.proofs.Texts.{writes_then}
use Rattle.listing.proofs.Pieces.{spaced_three}
use Rattle.listing.proofs.lines.put_end.Goals as goal

pub returns : goal.returns
returns c =
    rw spaced_three
    (writes_then c.put_text.ensures
    (writes_then
    (writes_then c.put_spaced.ensures (writes_then c.put_spaced-2.ensures c.put_spaced-3.ensures))
    c.put_byte.ensures))
