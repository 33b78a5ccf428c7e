-- `move_card` copies the 32 bytes from a place on, which are the card there. Assumes nothing.
use Prim.Native.Nat.{◌+◌, ◌-◌}
use native.Mathlib.Omega.{arith}
use mathlib.Core.Path.{◌≡◌}
use Rattle.rules.specs.Card.{card_at, card_length, with_card}
use Rattle.stores.proofs.cards.move_card.Goals as goal

pub returns : goal.returns
unfolding with_card card_at
returns c =
    let from = c.args.from in
    let whole : from + card_length - from ≡ card_length = omega arith in
    rw whole at c.copy_within.ensures.after
