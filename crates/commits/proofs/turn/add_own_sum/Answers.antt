-- `add_own_sum` puts the low word of the sum where p holds its own, as `with_held_sum` does: that is the sum's word, since the sum
-- is an amount. Assumes nothing.
use Prim.Native.Nat.{ℕ, ◌<◌}
use native.Mathlib.Omega.{arith}
use mathlib.Core.Path.{◌≡◌}
use mathlib.Core.List.{List}
use lib.IntN.{◌+ℤ◌}
use borrow.Author.Tests.{eq-eqb, ne_eqb}
use Rattle.rules.specs.Card.{base_place}
use Rattle.rules.specs.Amount.{amount_of, amount_word}
use Rattle.rules.specs.Table.{pending_word, pending_sum}
use Rattle.rules.specs.Held.{held_sum, with_held_sum}
use Rattle.amounts.specs.Sum.{word_values, sum_of, plus_word}
use Rattle.amounts.proofs.Sums.{room_for_second, word_of_two}
use Rattle.amounts.proofs.Places.{amount_put_at}
use Rattle.commits.specs.Fit.{MakesAmount}
use Rattle.commits.proofs.turn.add_own_sum.Goals as goal

-- the low word of the sum of two words: of what p holds and of n's pending sum
low_word :
    (w base : List ℕ) (n p k x y : ℕ) → x < word_values → y < word_values → amount_of x ≡ held_sum w base p k →
    y ≡ pending_word w n k → MakesAmount w base n p k →
    (plus_word (sum_of x) y).low ≡ amount_word (held_sum w base p k +ℤ pending_sum w n k)
low_word w base n p k x y hx hy held own fits = rw (← held, ← own) (word_of_two x y hx hy (rw (held, own) fits))

pub plus-sum-requires : goal.plus-sum-requires
plus-sum-requires c =
    rw c.of_word.ensures (room_for_second c.held_word.result (omega arith))

pub returns-else-p-eq-STORE : goal.returns-else-p-eq-STORE
unfolding with_held_sum
returns-else-p-eq-STORE c shadow =
    let own = c.pending in
    let held = c.held_word in
    let args = c.args in
    let low = low_word args.table.now args.base.now args.n args.p args.k in
    let fits = c.requires.makes_amount in
    let here = low held.result own.result (omega arith) (omega arith) held.ensures own.ensures fits in
    rw (c.set_pending.ensures, c.plus-sum.ensures, c.of_word.ensures, here, ne_eqb args.p 0 c.if-p-eq-STORE.false)

pub returns-then-p-eq-STORE : goal.returns-then-p-eq-STORE
unfolding with_held_sum
returns-then-p-eq-STORE c shadow =
    let own = c.pending in
    let held = c.held_word in
    let args = c.args in
    let low = low_word args.table.now args.base.now args.n args.p args.k in
    let here = low held.result own.result (omega arith) (omega arith) held.ensures own.ensures c.requires.makes_amount in
    rw (
      c.put_word.ensures,
      c.plus-sum.ensures,
      c.of_word.ensures,
      here,
      c.base_place.ensures,
      amount_put_at args.base.now (base_place args.k) _ (omega (arith, c.requires.base, c.requires.charge)),
      eq-eqb args.p 0 c.if-p-eq-STORE.true,
    )
