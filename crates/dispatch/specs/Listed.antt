-- RULES 9.1: an event in a list of bytes. Assumes nothing.
use Rattle.std.specs.Prelude.{ℕ, ◌+◌, ◌≤◌, List, length}
use Rattle.rules.specs.Encoding.{event_length}

-- the list has all bytes of an event at this place
abbrev pub EventFits : List ℕ → ℕ → Type 0
EventFits bytes at = at + event_length ≤ length bytes
