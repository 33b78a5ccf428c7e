-- `put_number` meets its contract: the digits written are the number in decimal, so the text put is that. Assumes nothing.
use mathlib.Core.Path.{sym, ◌∙◌}
use Rattle.text.proofs.Decimals.{digits_are_decimal}
use Rattle.text.proofs.Text.put_number.Goals as goal

-- what is written is the number's digits
pub put_text-requires : goal.put_text-requires
put_text-requires c = rw (c.decimal-k.ensures.digits ∙ digits_are_decimal _ _ c.ranges.n.fits c.decimal-k.ensures.len) c.requires

pub returns : goal.returns
returns c = rw (sym (c.decimal-k.ensures.digits ∙ digits_are_decimal _ _ c.ranges.n.fits c.decimal-k.ensures.len)) c.put_text.ensures
