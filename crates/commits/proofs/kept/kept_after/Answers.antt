-- `kept_after` adds three words up: what is kept in row p, n's own adds, and what is kept in n's row. Assumes nothing.
use Prim.Native.Nat.{ℕ, ◌<◌}
use native.Mathlib.Omega.{arith}
use mathlib.Core.Path.{◌≡◌, refl, ap, ◌∙◌}
use lib.IntN.{◌+ℤ◌, +ℤ_assoc}
use Rattle.rules.specs.Amount.{amount_of}
use Rattle.amounts.specs.Sum.{word_values, value_of, sum_of, plus_word, HasRoom}
use Rattle.amounts.proofs.Sums.{value_plus, counted_first, counted_plus, counted_room, room_for_second, value_of_two}
use Rattle.commits.proofs.kept.kept_after.Goals as goal

module _ (x y : ℕ) (hx : x < word_values) (hy : y < word_values) where
  room_for_third : HasRoom (plus_word (sum_of x) y)
  room_for_third = counted_room _ (counted_plus (sum_of x) y (counted_first x hx) hy) (omega arith)

  value_of_three :
      (z : ℕ) → z < word_values → value_of (plus_word (plus_word (sum_of x) y) z) ≡ amount_of x +ℤ (amount_of y +ℤ amount_of z)
  value_of_three z hz =
      value_plus (plus_word (sum_of x) y) z hz
      ∙ ap (λ s. s +ℤ amount_of z) (value_of_two x y hx hy)
      ∙ +ℤ_assoc (amount_of x) (amount_of y) (amount_of z)

pub plus-with_own-requires : goal.plus-with_own-requires
plus-with_own-requires c = rw c.of_word.ensures (room_for_second c.kept.result (omega arith))

pub plus-requires : goal.plus-requires
plus-requires c =
    let own = c.own_adds in
    rw (c.plus-with_own.ensures, c.of_word.ensures)
    (room_for_third c.kept.result own.result (omega arith) (omega arith))

pub returns : goal.returns
returns c =
    let under = c.kept-2 in
    let own = c.own_adds in
    let above = c.kept in
    rw (c.plus.ensures, c.plus-with_own.ensures, c.of_word.ensures)
    (value_of_three above.result own.result (omega arith) (omega arith) under.result (omega arith)
    ∙ rw (above.ensures, own.ensures, under.ensures) refl)
