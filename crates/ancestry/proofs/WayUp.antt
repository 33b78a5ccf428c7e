-- The way up to the store, move by move, in any table: no row stands behind the last, so no parent either. Assumes nothing.
use Prim.Native.Nat.{ℕ, suc, ◌+◌, ◌*◌, ◌<◌}
use native.Mathlib.Omega.{arith}
use mathlib.Core.Path.{◌≡◌, refl}
use mathlib.Core.Logic.{◌≢◌}
use mathlib.Core.List.{List}
use lib.ListN.{length, get_or-eq_default}
use lib.Dec.{eqb}
use borrow.Author.Tests.{ne_eqb}
use Rattle.rules.specs.Table.{width, table_length, most_actions, parent_field, word, parent_of}
use Rattle.rules.specs.Walk.{climbs}

module _ (w : List ℕ) where
  pub parent_behind : (n : ℕ) → length w ≡ table_length → most_actions < n → parent_of w n ≡ 0
  unfolding word
  parent_behind n long behind = get_or-eq_default w 0 {n = width * n + parent_field} (omega arith)

  -- a move is left, or none is
  pub way_on : (left at : ℕ) → at ≢ 0 → climbs (parent_of w) (suc left) at ≡ climbs (parent_of w) left (parent_of w at)
  unfolding climbs
  way_on left at action = rw (ne_eqb at 0 action)

  pub way_ends : (at : ℕ) → climbs (parent_of w) 0 at ≡ eqb at 0
  unfolding climbs
  way_ends at = refl
