-- A text put into a buffer piece by piece, and what the functions that put it ask of their callers and leave. Assumes nothing.
use Rattle.std.specs.Prelude.{◌≡◌, ℕ, ◌+◌, ◌≤◌, List, ◌++◌, length, take, drop}
use Rattle.std.specs.Borrow.{MutBor}
use Rattle.text.specs.declared.Text.{Text}

-- the buffer with a text put at a place: no byte before it or behind it changes
unfoldable pub put_at : List ℕ → ℕ → List ℕ → List ℕ
put_at buffer at text = take at buffer ++ text ++ drop (at + length text) buffer

-- a text of which nothing is put yet: it begins at the front of a lent buffer, which is as it was
pub record Begins (buffer : MutBor (List ℕ)) (text : Text) : Type 0 where
  pub same : text.out.ghost_name ≡ buffer.ghost_name
  pub front : text.at ≡ 0
  pub kept : text.out.now ≡ buffer.now

-- how many bytes are put
abbrev pub bytes_put : Text → ℕ
bytes_put text = text.at

-- there is room for so many more
abbrev pub HasRoom : Text → ℕ → Type 0
HasRoom text n = bytes_put text + n ≤ length text.out.now

-- and for a piece
abbrev pub Fits : Text → List ℕ → Type 0
Fits text piece = HasRoom text (length piece)

-- a piece is put right behind what was put before, in the same buffer
pub record Writes (old new : Text) (piece : List ℕ) : Type 0 where
  pub same : new.out.ghost_name ≡ old.out.ghost_name
  pub room : length new.out.now ≡ length old.out.now
  pub next : new.at ≡ old.at + length piece
  pub leaves : new.out.now ≡ put_at old.out.now old.at piece
