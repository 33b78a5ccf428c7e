-- `copy_card` puts the 32 bytes of the source from a place on, which are the card there. Assumes nothing.
use Rattle.rules.specs.Card.{card_at}
use Rattle.stores.proofs.CopiedCard.{copied_card}
use Rattle.stores.proofs.cards.copy_card.Goals as goal

pub returns : goal.returns
unfolding card_at
returns c =
    let given = c.args in
    copied_card given.source.now given.store.now _ given.from given.to c.requires.card_fits_2.fits c.copy_from_slice.ensures.after
