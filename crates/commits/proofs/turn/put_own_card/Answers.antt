-- `put_own_card` puts n's card into the base store or over p's, as `with_held_card` does. Assumes nothing.
use borrow.Author.Tests.{eq-eqb, ne_eqb}
use Rattle.rules.specs.Held.{with_held_card}
use Rattle.commits.proofs.turn.put_own_card.Goals as goal

pub returns-then-p-eq-STORE : goal.returns-then-p-eq-STORE
unfolding with_held_card
returns-then-p-eq-STORE c w =
    let place = c.base_place in
    let own = c.shadow_place-own in
    rw (eq-eqb _ 0 c.if-p-eq-STORE.true, c.copy_card.ensures, place.ensures, own.ensures)

pub returns-else-p-eq-STORE : goal.returns-else-p-eq-STORE
unfolding with_held_card
returns-else-p-eq-STORE c w =
    let place = c.shadow_place in
    let own = c.shadow_place-own in
    rw (ne_eqb _ 0 c.if-p-eq-STORE.false, c.move_card.ensures, place.ensures, own.ensures)
