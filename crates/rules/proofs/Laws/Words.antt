-- The laws of the table's two operations. What stands on them uses these laws and no offsets. Assumes nothing.
use Prim.Native.Nat.{ℕ, ◌+◌, ◌*◌, ◌≤◌, ◌<◌}
use native.Mathlib.Omega.{arith}
use native.Mathlib.Decide.{ℕ_discrete}
use mathlib.Core.Path.{◌≡◌}
use mathlib.Core.Logic.{◌≢◌}
use mathlib.Core.List.{List}
use lib.ListN.{length, length-set}
use lib.Seq.{get_or-set_same, get_or-set_other, set_comm, set-get_or}
use Rattle.rules.specs.Table.{width, table_length, word, with_word, most_actions}

pub with_word_length : (w : List ℕ) (n f v : ℕ) → length (with_word w n f v) ≡ length w
unfolding with_word
with_word_length w n f v = length-set w (width * n + f) v

pub word_same : (w : List ℕ) (n f v : ℕ) → length w ≡ table_length → n ≤ most_actions → f < width → word (with_word w n f v) n f ≡ v
unfolding word with_word
word_same w n f v long few h = get_or-set_same w (width * n + f) v 0 (omega arith)

pub word_other_row : (w : List ℕ) (n m f g v : ℕ) → f < width → g < width → m ≢ n → word (with_word w n f v) m g ≡ word w m g
unfolding word with_word
word_other_row w n m f g v hf hg ne = get_or-set_other w (width * n + f) (width * m + g) v 0 (λ e. omega arith)

pub word_other_field : (w : List ℕ) (n f g v : ℕ) → g ≢ f → word (with_word w n f v) n g ≡ word w n g
unfolding word with_word
word_other_field w n f g v ne = get_or-set_other w (width * n + f) (width * n + g) v 0 (λ e. ne (omega arith))

-- what stands there may be put there again
pub with_word_own : (w : List ℕ) (n f : ℕ) → with_word w n f (word w n f) ≡ w
unfolding word with_word
with_word_own w n f = set-get_or w (width * n + f) 0

-- ---- the same laws, as they are used most

-- another field, in whatever row
pub word_off_field : (w : List ℕ) (n m f g v : ℕ) → f < width → g < width → g ≢ f → word (with_word w n f v) m g ≡ word w m g
word_off_field w n m f g v hf hg ne = go (ℕ_discrete m n)
  where
    go : Dec (m ≡ n) → word (with_word w n f v) m g ≡ word w m g
    go (yes e) = rw e (word_other_field w n f g v ne)
    go (no apart) = word_other_row w n m f g v hf hg apart

-- two fields of a row may be given in either order
pub with_word_swap :
    (w : List ℕ) (n f g v u : ℕ) → f ≢ g → with_word (with_word w n f v) n g u ≡ with_word (with_word w n g u) n f v
unfolding with_word
with_word_swap w n f g v u ne = set_comm w (width * n + f) (width * n + g) v u (λ e. ne (omega arith))
