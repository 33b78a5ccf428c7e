-- `cents_of` meets its contract: the cents are the amount of the word that is read. Assumes nothing.
use Rattle.std.proofs.Common.{ap, ◌∙◌}
use Rattle.rules.specs.Amount.{amount_of}
use Rattle.charges.proofs.SignedWords.{held}
use Rattle.charges.proofs.list.cents_of.Goals as goal

pub returns : goal.returns
unfolding amount_of
returns c = held c.cast_signed.type_inv ∙ c.cast_signed.ensures ∙ ap amount_of c.cents_word.ensures
