-- What a start asks of its caller. Assumes nothing.
use Rattle.std.specs.Prelude.{ℕ, ◌≢◌, List}
use Rattle.rules.specs.Free.{next_number}

-- a number is free
abbrev pub HasFreeNumber : List ℕ → Type 0
HasFreeNumber w = next_number w ≢ 0
