-- Words that lie in rows of one length. Assumes nothing.
use Rattle.std.specs.Prelude.{◌≡◌, ℕ, ◌+◌, ◌*◌, ◌<◌, List, [], length, get_or}

-- the first rows of n words each
pub record AreRows (n count : ℕ) (words : List ℕ) (rows : List (List ℕ)) : Type 0 where
  pub many : length rows ≡ count
  pub each : (i k : ℕ) → i < count → k < n → get_or (get_or rows i []) k 0 ≡ get_or words (n * i + k) 0
