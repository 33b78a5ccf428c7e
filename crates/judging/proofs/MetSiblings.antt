-- A sibling that is met in a queue is met at a position, and whoever stands at a position of a sound table's queue has a row.
-- Assumes nothing.
use Prim.Native.Nat.{ℕ, ◌+◌, ◌-◌, ◌≤◌}
use native.Mathlib.Nat.{add-sub_cancel}
use native.Mathlib.Omega.{arith}
use mathlib.Core.Path.{◌≡◌}
use mathlib.Core.List.{List}
use Rattle.rules.specs.Range.{up_from, any}
use Rattle.rules.specs.Kind.{IsKind}
use Rattle.rules.specs.Queue.{queue_length, entry_number, entry_at, queue}
use Rattle.rules.specs.Sound.{Sound}
use Rattle.rules.specs.Verdict.{is_met_by, is_met_in_queue}
use Rattle.rules.proofs.Laws.Lists.{any_map}
use Rattle.rules.proofs.Laws.QueueLoops.{queued_at}
use Rattle.rows.specs.Row.{HasRow}

-- the positions from the head on
pub met_from_head :
    (w : List ℕ) (h n : ℕ) →
    is_met_in_queue w h n ≡ any (λ i. is_met_by w n (entry_number w h i)) (up_from 1 (queue_length w h + 1 - 1))
unfolding is_met_in_queue queue entry_at
met_from_head w h n =
    rw add-sub_cancel (any_map (λ e. is_met_by w n e.number) (entry_at w h) (up_from 1 (queue_length w h)))

pub row_of_queued : (w : List ℕ) (h : ℕ) → IsKind h → (i : ℕ) → Sound w → 1 ≤ i → i ≤ queue_length w h → HasRow w (entry_number w h i)
row_of_queued w h known i sound one last =
    let begun = ((sound.lines h known).waits _ (queued_at w h i one last)).begun in
    record { long = sound.long; known = omega (arith, begun.1, sound.few) }
