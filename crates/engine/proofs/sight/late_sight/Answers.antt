-- `late_sight` finds of a charge account the base card, by the walk that finds its sum too. Assumes nothing.
use mathlib.Core.Path.{ap}
use borrow.Author.Tests.{le-leb}
use Rattle.rules.specs.Card.{first_charge}
use Rattle.rules.proofs.Laws.Walking.{sound_climbs}
use Rattle.rules.proofs.Laws.Charges.{nearest_charge}
use Rattle.engine.proofs.sight.late_sight.Goals as goal

pub returns-clause-version : goal.returns-clause-version
returns-clause-version c =
    let args = c.args in
    let readable = c.requires.readable in
    let charge = le-leb first_charge args.k c.if-k-lt-FIRST_CHARGE.false in
    let up = sound_climbs readable.sound args.n (readable.known, readable.alive) in
    rw (nearest_charge _ _ charge _ up)
    (ap (λ moves. record { holder = 0; moves = moves }) (ap (λ s. s.moves) c.seen_by-seen.ensures))
