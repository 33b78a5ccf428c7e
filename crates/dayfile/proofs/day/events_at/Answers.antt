-- `events_at` gives where the events begin: a file without fault has its first byte. Assumes nothing.
use native.Mathlib.Omega.{arith}
use Rattle.dayread.proofs.Faultless.{faultless}
use Rattle.dayfile.proofs.day.events_at.Goals as goal

pub byte_at-requires : goal.byte_at-requires
byte_at-requires c = let f = faultless _ c.requires in omega arith
