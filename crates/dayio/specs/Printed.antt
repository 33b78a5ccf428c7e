-- The length of a listing or a tree that was printed, and what was written. What a file or standard input gives is open, so the
-- file is some file. Assumes nothing.
use Rattle.std.specs.Prelude.{ℕ, ◌≡◌, ◌≤◌, List, length, replicate}
use Rattle.std.specs.Borrow.{Bor, MutBor}
use Rattle.std.specs.Fn.{Once}
pub use Rattle.streams.specs.Printed.{IsTextLength, Prints, PrintsPart}
use Rattle.rules.specs.Card.{base_length, shadow_length}
use Rattle.rules.specs.Table.{new_table}
use Rattle.rules.specs.Ledger.{Ledger}
use Rattle.text.specs.Put.{put_at}
use Rattle.listing.specs.Buffer.{listing_length}
use Rattle.dayfile.specs.Day.{listing}
use Rattle.dayfile.specs.Tree.{tree_of_day}

-- a new table over two stores of zeros
abbrev pub fresh : Ledger
fresh = record { table = new_table; base = replicate base_length 0; shadow = replicate shadow_length 0 }

-- n is the length of the listing of a file, the one that was read
abbrev pub IsListed : ℕ → Type 0
IsListed n = IsTextLength (listing fresh) n

-- n is the length of the tree of a file, the one that was read
abbrev pub IsTree : ℕ → Type 0
IsTree n = IsTextLength (tree_of_day fresh (replicate base_length 0)) n

-- the buffer before a text is put
abbrev pub new_buffer : List ℕ
new_buffer = replicate listing_length 0

module _ {F : Type 0} (g : Once F (Bor (List ℕ) × (MutBor (List ℕ) × Unit {0})) (ℕ × (MutBor (List ℕ) × Unit {0}))) (f : F) where
  -- whatever a call of f on a file, lent a new buffer, may give back and leave there: P holds of the three
  abbrev pub EachCall : (List ℕ → ℕ → List ℕ → Type 0) → Type 0
  EachCall P =
      (file : Bor (List ℕ)) (buffer after : MutBor (List ℕ)) (n : ℕ) → buffer.now ≡ new_buffer →
      g.post f (file, (buffer, tt)) (n, (after, tt)) → P file.now n after.now

  -- no more bytes are given than the buffer holds
  abbrev pub Fits : Type 0
  Fits = EachCall (λ file n left. n ≤ listing_length)

  -- the text of the file is put at the buffer's front, and its length given
  abbrev pub Puts : (List ℕ → List ℕ) → Type 0
  Puts text = EachCall (λ file n left. (n ≡ length (text file)) × (left ≡ put_at new_buffer 0 (text file)))

  -- P holds of whatever text f puts
  abbrev pub ForText : ((List ℕ → List ℕ) → Type 0) → Type 0
  ForText P = (text : List ℕ → List ℕ) → Puts text → P text
