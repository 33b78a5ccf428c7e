-- RULES 14.5: the length of a column that was printed, and what was written. What a file or standard input gives is open, so the
-- list is some list. Assumes nothing.
use Rattle.std.specs.Prelude.{◌≡◌, ℕ, List, Option, IfSome}
use Rattle.std.specs.Io.KnownBytes.{Appends}
use Rattle.streams.specs.Printed.{IsTextLength, PrintsPart as PrintsPartOf}
use Rattle.charges.specs.Column.{column_text}

-- n is the length of a list's text, the list being the one that was read
abbrev pub IsPrinted : ℕ → Type 0
IsPrinted n = IsTextLength column_text n

-- the text of all that a reader has left is written behind what the writer holds, where either is known
pub record PrintsColumn (left old new : Option (List ℕ)) : Type 0 where
  pub list : List ℕ
  pub is_left : IfSome left (λ bytes. bytes ≡ list)
  pub written : Appends old new (column_text list)

-- an error leaves some of a list read, and a front of a list's text, perhaps none, written
abbrev pub PrintsPart : (left rest old new : Option (List ℕ)) → Type 0
PrintsPart left rest old new = PrintsPartOf column_text left rest old new
