-- `held_word` reads the base amount's word or p's pending sum's, as `held_sum` does. Assumes nothing.
use mathlib.Core.Path.{sym}
use borrow.Author.Tests.{eq-eqb, ne_eqb}
use Rattle.amounts.proofs.Places.{base_amount_at}
use Rattle.commits.proofs.held.held_word.Goals as goal

pub returns-then-p-eq-STORE : goal.returns-then-p-eq-STORE
returns-then-p-eq-STORE c =
    let args = c.args in
    rw (eq-eqb args.p 0 c.if-p-eq-STORE.true, c.word_at.ensures, c.base_place.ensures)
    (sym (base_amount_at args.base.now args.k))

pub returns : goal.returns
returns c =
    rw (ne_eqb c.args.p 0 c.if-p-eq-STORE.false, c.pending.ensures)
