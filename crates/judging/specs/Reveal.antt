-- The table after a verdict is revealed. Assumes nothing.
use Rattle.std.specs.Prelude.{ℕ, Bool, true, false, List}
use Rattle.rules.specs.Table.{aborted, kind_of, with_state}
use Rattle.rules.specs.Queue.{with_ready, without_below}

-- RULES 2.12: n's verdict is revealed, by whether it is failed, and before the head is tried
unfoldable pub revealed_table : List ℕ → ℕ → Bool → List ℕ
revealed_table w n true = with_state (without_below w (kind_of w n) n) n aborted
revealed_table w n false = with_ready w (kind_of w n) n
