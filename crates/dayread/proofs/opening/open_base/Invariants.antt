-- `open_base` meets its contract: the opening base store is the present store with the cards from `i` on put into it, `i` the
-- entry at the loop's head; a file without a fault has each card whole and at a known account. Assumes nothing.
use Prim.Native.Nat.{◌≤◌, ◌-◌}
use mathlib.Core.Path.{◌≡◌}
use lib.ListN.{length}
use Rattle.rules.specs.Range.{up_from, fold}
use Rattle.rules.specs.Card.{base_length, base_place, with_card}
use Rattle.dayread.specs.File.{account_at, opening_card}
use Rattle.dayread.specs.Opening.{opening_base}
use Rattle.dayread.proofs.opening.open_base.Given as goal

abbrev pub invariant-loop-i : goal.invariant-loop-i
invariant-loop-i l =
    (l.i ≤ l.count)
    × (length l.base ≡ base_length)
    × (opening_base l.file
    ≡ fold (λ j now. with_card now (base_place (account_at l.file j)) (opening_card l.file j)) (up_from l.i (l.count - l.i)) l.base)

abbrev pub decreases-loop-i : goal.decreases-loop-i
decreases-loop-i l = l.count - l.i
