-- Words among bytes, low byte first, and what the functions on them ask of their callers. Assumes nothing.
use Rattle.std.specs.Prelude.{ℕ, ◌+◌, ◌≤◌, List, ◌++◌, length, take, drop}
use Rattle.rules.specs.Amount.{amount_length, low_first, bytes_low_first}

-- there are all bytes of a word at this place
pub record WordFits (bytes : List ℕ) (at : ℕ) : Type 0 where
  pub fits : at + amount_length ≤ length bytes

-- the word at a place
abbrev pub word_at : List ℕ → ℕ → ℕ
word_at bytes at = low_first (take amount_length (drop at bytes))

-- the store with a word put at a place: no byte before it or behind it changes
unfoldable pub with_bytes : List ℕ → ℕ → ℕ → List ℕ
with_bytes store at word = take at store ++ bytes_low_first amount_length word ++ drop (at + amount_length) store
