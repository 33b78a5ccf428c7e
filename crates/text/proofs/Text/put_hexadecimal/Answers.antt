-- `put_hexadecimal` meets its contract: the digits written are the number's sixteen, so the text put is those. Assumes nothing.
use mathlib.Core.Path.{sym, ◌∙◌}
use Rattle.text.proofs.Hexadecimals.{digits_are_hexadecimal}
use Rattle.text.proofs.Text.put_hexadecimal.Goals as goal

-- what is written is the number's digits
pub put_text-requires : goal.put_text-requires
put_text-requires c = rw (c.hex-k.ensures.digits ∙ digits_are_hexadecimal _ _ c.ranges.word.fits c.hex-k.ensures.len) c.requires

pub returns : goal.returns
returns c = rw (sym (c.hex-k.ensures.digits ∙ digits_are_hexadecimal _ _ c.ranges.word.fits c.hex-k.ensures.len)) c.put_text.ensures
