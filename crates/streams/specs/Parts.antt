-- What is known of a reader and of a writer after an error. Assumes nothing.
use Rattle.std.specs.Prelude.{ℕ, List, Option, take}
use Rattle.std.specs.Io.KnownBytes.{Appends, Consumes}

-- some bytes of what a reader had left are gone, and no others
pub record ConsumesSome (old new : Option (List ℕ)) : Type 0 where
  pub bytes : List ℕ
  pub gone : Consumes old new bytes

-- a front of these bytes, perhaps none, stands behind what a writer held
pub record AppendsFront (old new : Option (List ℕ)) (buf : List ℕ) : Type 0 where
  pub many : ℕ
  pub written : Appends old new (take many buf)
