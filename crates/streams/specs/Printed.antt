-- What is known where a text of what a reader gives is written. What was read is open where the reader's bytes are, so it is some
-- bytes. Assumes nothing.
use Rattle.std.specs.Prelude.{◌≡◌, ℕ, List, Option, length}
use Rattle.std.specs.Io.KnownBytes.{Appends, Consumes}
use Rattle.streams.specs.Parts.{ConsumesSome, AppendsFront}

module _ (text : List ℕ → List ℕ) where
  -- n is the length of the text of some bytes, those that were read
  pub record IsTextLength (n : ℕ) : Type 0 where
    pub file : List ℕ
    pub is : n ≡ length (text file)

  -- the text of what was read is written behind what the writer holds, where either is known
  pub record Prints (left rest old new : Option (List ℕ)) : Type 0 where
    pub file : List ℕ
    pub read : Consumes left rest file
    pub written : Appends old new (text file)

  -- an error leaves some bytes read, and a front of the text of some bytes, perhaps none, written
  pub record PrintsPart (left rest old new : Option (List ℕ)) : Type 0 where
    pub read : ConsumesSome left rest
    pub file : List ℕ
    pub written : AppendsFront old new (text file)
