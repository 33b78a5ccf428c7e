-- `read` answers of a charge account the base card's version with the sum that is seen there. Assumes nothing.
use mathlib.Core.Path.{sym, ap, ap₂, ◌∙◌}
use borrow.Author.Tests.{le-leb}
use Rattle.std.proofs.lemmas.Option.{cond_some}
use Rattle.rules.specs.declared.Answer.TheVariants.{ReadSum}
use Rattle.rules.specs.Card.{first_charge}
use Rattle.rules.specs.Cause.{is_read_outside}
use Rattle.rules.specs.Step.{read_answer}
use Rattle.rules.proofs.Laws.Walking.{sound_climbs}
use Rattle.rules.proofs.Laws.Charges.{nearest_charge}
use Rattle.events.proofs.read.read.Goals as goal

pub returns-clause-says : goal.returns-clause-says
unfolding is_read_outside read_answer
returns-clause-says c =
    let args = c.args in
    let readable = c.requires.readable in
    let charge = le-leb first_charge args.k c.if-k-lt-FIRST_CHARGE.false in
    let up = sound_climbs readable.sound args.n (readable.known, readable.alive) in
    let found = c.seen_by-seen.ensures in
    let (fits, sum) = cond_some _ _ _ (sym (ap (λ s. s.sum) found) ∙ c.in-Some.is) in
    rw (charge, fits, nearest_charge _ _ charge _ up) (ap₂ (ReadSum 0) (ap (λ s. s.moves) found) (sym sum))
