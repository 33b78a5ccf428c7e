-- What is copied to the caller's card is the look's part, which is never longer. Assumes nothing.
use native.Mathlib.Nat.{le_trans}
use native.Mathlib.Omega.{arith}
use Rattle.rules.proofs.Stores.Looking.{look_at_most_card}
use Rattle.capi.proofs.mundzavch_look.Goals as goal

pub slice_bounds-copy_from_slice-end : goal.slice_bounds-copy_from_slice-end
slice_bounds-copy_from_slice-end c =
    rw c.look-looked.ensures.place.size (le_trans (look_at_most_card _ _ _ _ _) (omega arith))
