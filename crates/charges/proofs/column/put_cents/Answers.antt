-- `put_cents` meets its contract: the space is put, and right behind it the number that the cents' word is. Assumes nothing.
use Rattle.std.proofs.Common.{arith}
use Rattle.text.proofs.Texts.{writes_then}
use Rattle.charges.specs.Column.{cents_text}
use Rattle.charges.proofs.SignedWords.{word_shown}
use Rattle.charges.proofs.column.put_cents.Goals as goal

pub put_signed-requires : goal.put_signed-requires
unfolding cents_text
put_signed-requires c =
    rw (word_shown c.args.running.cents (omega arith) c.cast_unsigned.ensures) (omega (arith, c.put_byte.ensures, c.requires))

pub returns : goal.returns
unfolding cents_text
returns c =
    rw (← word_shown c.args.running.cents (omega arith) c.cast_unsigned.ensures)
    (writes_then c.put_byte.ensures c.put_signed.ensures)
