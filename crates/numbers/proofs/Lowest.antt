-- The lowest free number, as a loop from the front finds it; and the number that a start gives, once it has been looked for.
-- Assumes nothing.
use Prim.Native.Nat.{ℕ, ◌+◌, ◌-◌, ◌≤◌, ◌<◌}
use native.Mathlib.Omega.{arith}
use mathlib.Core.Path.{◌≡◌, refl}
use mathlib.Core.Bool.{Bool, true, false}
use mathlib.Core.List.{List}
use lib.Dec.{ltb}
use borrow.Author.Tests.{ne_eqb}
use Rattle.std.specs.Prelude.{Some}
use Rattle.std.specs.Bool.{then_some}
use Rattle.rules.specs.Range.{up_from}
use Rattle.rules.specs.Table.{most_actions, highest, actions}
use Rattle.rules.specs.Free.{is_free, first_free, fresh_number, next_number}
use Rattle.numbers.specs.Number.{number_left}
use Rattle.rules.proofs.Laws.Ranges.{left_next, left_done}

module _ (w : List ℕ) (a end : ℕ) where
  -- the first of what is left is it, or it is passed over
  pub lowest_here : a < end → is_free w a ≡ true → first_free w (up_from a (end - a)) ≡ a
  unfolding first_free
  lowest_here h free = rw (left_next a end h, free)

  pub lowest_next : a < end → is_free w a ≡ false → first_free w (up_from a (end - a)) ≡ first_free w (up_from (a + 1) (end - (a + 1)))
  unfolding first_free
  lowest_next h taken = rw (left_next a end h, taken)

  pub lowest_done : end ≤ a → first_free w (up_from a (end - a)) ≡ 0
  unfolding first_free
  lowest_done h = rw (left_done a end h)

module _ (w : List ℕ) where
  pub found : (n : ℕ) → 1 ≤ n → first_free w (actions w) ≡ n → Some n ≡ number_left w
  unfolding next_number
  found n one lowest = rw (lowest, ne_eqb n 0 (λ z. omega arith), ne_eqb n 0 (λ z. omega arith))

  -- where none is free the next is fresh, if there is room
  fresh :
      (room : Bool) → ltb (highest w) most_actions ≡ room → first_free w (actions w) ≡ 0 →
      then_some room (highest w + 1) ≡ number_left w
  unfolding next_number fresh_number
  fresh true room none = rw (none, room, ne_eqb (highest w + 1) 0 (λ z. omega arith))
  fresh false full none = rw (none, full)

  pub not_found : first_free w (actions w) ≡ 0 → then_some (ltb (highest w) most_actions) (highest w + 1) ≡ number_left w
  not_found none = fresh (ltb (highest w) most_actions) refl none
