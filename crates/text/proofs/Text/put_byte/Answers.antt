-- `put_byte` meets its contract: a byte stored at a place is a text of one byte put there. Assumes nothing.
use native.Mathlib.Omega.{arith}
use Rattle.std.proofs.Common.{rules}
use mathlib.Core.Path.{refl}
use Rattle.text.proofs.Texts.{put_at_byte}
use Rattle.text.proofs.Text.put_byte.Goals as goal

pub returns : goal.returns
returns c = record { same = refl; room = search rules; next = refl; leaves = put_at_byte _ _ _ (omega arith) }
