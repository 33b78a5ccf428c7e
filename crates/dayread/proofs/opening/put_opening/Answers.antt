-- `put_opening` meets its contract: the card copied is the one behind its account. Assumes nothing.
use Rattle.rules.specs.Card.{card_at}
use Rattle.dayread.proofs.opening.put_opening.Goals as goal

pub returns : goal.returns
unfolding card_at
returns c = rw (← c.byte_at-account.ensures.value) c.copy_card.ensures
