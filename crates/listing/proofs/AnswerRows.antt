-- Answers as rows of words: what is said of one in its row is what is said of it among all. Assumes nothing.
use Rattle.std.proofs.Common.{◌≡◌, ℕ, ◌*◌, ◌<◌, Bool, true, false, cond, List, [], refl, arith, add-zero}
use mir.Val.{bool_byte}
use lib.ListN.{get_or}
use Rattle.rules.specs.Encoding.{answer_length}
use Rattle.listing.specs.Buffer.{line_at}
use Rattle.listing.specs.Rows.{AreRows}

module _ {count : ℕ} {words : List ℕ} {rows : List (List ℕ)} (are : AreRows answer_length count words rows) (i : ℕ) (inside : i < count) where
  pub kind_of_row : get_or (get_or rows i []) 0 0 ≡ get_or words (answer_length * i) 0
  kind_of_row = rw add-zero at (are.each i 0 inside (omega arith))

  pub line_of_row : (place : ℕ) → line_at (get_or rows i []) place 0 ≡ line_at words place i
  line_of_row place =
      rw (kind_of_row, are.each i 1 inside (omega arith), are.each i 2 inside (omega arith), are.each i 3 inside (omega arith))

-- a truth counts for one
pub counted : (b : Bool) → bool_byte b ≡ cond b 1 0
counted true = refl
counted false = refl
