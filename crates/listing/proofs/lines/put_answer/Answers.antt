-- `put_answer` meets its contract: the word is put, then the numbers, and behind them the sum where the kind has one, each
-- right behind what is there. Assumes nothing.
use Rattle.text.proofs.Texts.{writes_then}
use Rattle.listing.proofs.Pieces.{text_sum, text_plain}
use Rattle.listing.proofs.lines.put_answer.Goals as goal

pub returns-then-kind-eq-READ_SUM : goal.returns-then-kind-eq-READ_SUM
returns-then-kind-eq-READ_SUM c =
    rw (text_sum _ _ _ _ c.if-kind-eq-READ_SUM.true, ← c.word_of.ensures)
    (writes_then (writes_then c.put_text.ensures c.put_numbers.ensures) (writes_then c.put_byte.ensures c.put_signed.ensures))

pub returns-else-kind-eq-READ_SUM : goal.returns-else-kind-eq-READ_SUM
returns-else-kind-eq-READ_SUM c =
    rw (text_plain _ _ _ _ c.if-kind-eq-READ_SUM.false, ← c.word_of.ensures)
    (writes_then c.put_text.ensures c.put_numbers.ensures)
