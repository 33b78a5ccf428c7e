-- What a text that is copied into a buffer leaves there. Assumes nothing.
use Prim.Native.Nat.{ℕ, ◌+◌, ◌-◌}
use mathlib.Core.Path.{◌≡◌, refl}
use mathlib.Core.List.{List}
use lib.ListN.{length}
use borrow.Rule.Slice.PartMut.{put_mid}
use Rattle.rules.proofs.Laws.CopiedPart.{copied_part}
use Rattle.text.specs.Put.{put_at}

-- a text copied over as many bytes of a buffer is put there
pub copied_text :
    (buffer text part : List ℕ) (at : ℕ) → part ≡ text → put_mid at (at + length text - at) buffer part ≡ put_at buffer at text
unfolding put_at
copied_text buffer text part at = copied_part buffer text part at (at + length text) refl
