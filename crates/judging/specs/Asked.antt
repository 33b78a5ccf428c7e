-- What the calls on the queues ask of their callers. Assumes nothing.
use Rattle.std.specs.Prelude.{ℕ, ◌≤◌, ◌≡◌, true, false, List}
use Rattle.rules.specs.Table.{kind_of}
use Rattle.rules.specs.Queue.{queue_length, is_queued, is_waiting, is_head_ready}

-- n stands in the queue of its kind; it stands in neither queue
abbrev pub IsQueued : List ℕ → ℕ → Type 0
IsQueued w n = is_queued w (kind_of w n) n ≡ true

abbrev pub IsUnqueued : List ℕ → ℕ → Type 0
IsUnqueued w n = is_waiting w n ≡ false

-- queue h has a head, and that is ready
abbrev pub HasReadyHead : List ℕ → ℕ → Type 0
HasReadyHead w h = is_head_ready w h ≡ true

-- i is a position of queue h
abbrev pub IsPosition : List ℕ → ℕ → ℕ → Type 0
IsPosition w h i = (1 ≤ i) × (i ≤ queue_length w h)
