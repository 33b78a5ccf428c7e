-- What `copy_from_slice` of a card of one store into another leaves there. Assumes nothing.
use Prim.Native.Nat.{ℕ, ◌+◌, ◌-◌}
use native.Mathlib.Nat.{add-sub_cancel_left}
use native.Mathlib.Omega.{arith}
use mathlib.Core.Path.{◌≡◌, ◌∙◌}
use mathlib.Core.List.{List}
use lib.ListN.{take, drop}
use borrow.Rule.Slice.PartMut.{mid_of, put_mid, mid_len}
use Rattle.rules.specs.Card.{card_length, with_card}
use Rattle.rules.proofs.Laws.Cards.{Fits}
use Rattle.rules.proofs.Laws.CopiedPart.{copied_part}

-- 32 bytes of one store, or of a file, copied to a place of another put a card there
pub copied_card :
    (source store part : List ℕ) (from at : ℕ) → Fits source from →
    part ≡ mid_of from (from + card_length - from) source →
    put_mid at (at + card_length - at) store part ≡ with_card store at (take card_length (drop from source))
unfolding with_card
copied_card source store part from at inside copied =
    copied_part store (mid_of from (from + card_length - from) source) part at (at + card_length) (rw mid_len (omega arith)) copied
    ∙ rw add-sub_cancel_left
