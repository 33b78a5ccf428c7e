-- What is written of a list, from what was read of it: the list itself, or more bytes of it than any list has that is not
-- refused. Assumes nothing.
use Rattle.std.proofs.Common.{◌≡◌, ℕ, ◌≤◌, List, [], ◌++◌, length, Some, None, refl, sym, subst, ◌∙◌, append-nil, arith}
use native.Mathlib.Decide.{dec_le}
use lib.ListN.{length-append}
use Rattle.std.specs.Prelude.{Option}
use Rattle.std.specs.Io.KnownBytes.{Appends, Consumes, IsAtEnd}
use Rattle.charges.specs.List.{list_length}
use Rattle.charges.specs.Column.{column_text}
use Rattle.charges.specs.Printed.{PrintsColumn}
use Rattle.charges.proofs.Worked.{worked_lists}

-- what was read has all that there was, or is too long as the whole is
same_text :
    (front rest bytes : List ℕ) → bytes ≡ front ++ rest → (length front ≤ list_length → rest ≡ [])
    → column_text front ≡ column_text bytes
same_text front rest bytes whole ended = go (dec_le (length front) list_length)
  where
    go : Dec (length front ≤ list_length) → column_text front ≡ column_text bytes
    go (yes short) = rw (whole, ended short, append-nil front)
    go (no more) =
        rw whole
        (worked_lists.long front (omega arith)
        ∙ sym (worked_lists.long (front ++ rest) (omega (arith, length-append front rest))))

pub prints_column :
    (left rest old new : Option (List ℕ)) (front : List ℕ) → Consumes left rest front
    → (length front ≤ list_length → IsAtEnd rest) → Appends old new (column_text front) → PrintsColumn left old new
prints_column None rest old new front read ended written = record { list = front; is_left = tt; written = written }
prints_column (Some bytes) None old new front read ended written = absurd read
prints_column (Some bytes) (Some rest) old new front read ended written =
    record {
      list = bytes;
      is_left = refl;
      written = subst (Appends old new) (same_text front rest bytes read ended) written;
    }
