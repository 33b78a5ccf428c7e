-- What `copy_from_slice` into a part of a list leaves in the whole. Assumes nothing.
use Prim.Native.Nat.{ℕ, ◌+◌, ◌-◌}
use native.Mathlib.Omega.{arith}
use mathlib.Core.Path.{◌≡◌}
use mathlib.Core.List.{List, ◌++◌, append_assoc}
use lib.ListN.{length, take, drop}
use borrow.Rule.Slice.PartMut.{put_mid, Post-is}

pub copied_part :
    (whole source part : List ℕ) (at end : ℕ) → at + length source ≡ end → part ≡ source →
    put_mid at (end - at) whole part ≡ take at whole ++ source ++ drop end whole
copied_part whole source part at end fills copied = rw (copied, Post-is at end whole (omega arith), append_assoc)
