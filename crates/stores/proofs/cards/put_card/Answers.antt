-- `put_card` leaves the store with the card put at its place. Assumes nothing.
use native.Mathlib.Omega.{arith}
use Rattle.rules.specs.Card.{with_card}
use Rattle.rules.proofs.Laws.CopiedPart.{copied_part}
use Rattle.stores.proofs.cards.put_card.Goals as goal

pub returns : goal.returns
unfolding with_card
returns c = copied_part c.args.store.now c.args.card.now _ c.args.at _ (omega arith) c.copy_from_slice.ensures.after
