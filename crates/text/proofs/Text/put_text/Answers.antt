-- `put_text` meets its contract: the text is copied over the whole of a part of the buffer, so the part's bytes become the
-- text's, and no other byte changes. Assumes nothing.
use Rattle.std.proofs.Common.{rules}
use mathlib.Core.Path.{refl}
use Rattle.text.proofs.CopiedText.{copied_text}
use Rattle.text.proofs.Text.put_text.Goals as goal

pub returns : goal.returns
returns c = record { same = refl; room = search rules; next = refl; leaves = copied_text _ _ _ _ c.copy_from_slice.ensures.after }
