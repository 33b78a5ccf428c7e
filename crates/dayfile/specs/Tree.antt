-- RULES 12.9: a whole day, and the tree of the table that it leaves. Assumes nothing.
use Rattle.std.specs.Prelude.{ℕ, ◌≡◌, cond, not, List, eqb, length}
use Rattle.rules.specs.Card.{base_length}
use Rattle.rules.specs.Ledger.{Ledger}
use Rattle.rules.specs.Cause.{store_length_cause}
use Rattle.rules.specs.Tree.{tree_cause}
use Rattle.dayread.specs.Opening.{opening_base}
use Rattle.text.specs.Text.{refused_line}
use Rattle.text.specs.Put.{put_at}
use Rattle.listing.specs.Tree.{tree_text}
use Rattle.dayfile.specs.Day.{day_cause, day_run}

-- why a day has no tree, 0 where it has one; of a day that is run cause 15 is not asked, since it never applies
-- (proofs/DayTree.antt)
unfoldable pub day_tree_cause : Ledger → List ℕ → List ℕ → ℕ
day_tree_cause s opening file = cond (not (eqb (length opening) base_length)) store_length_cause (day_cause s file)

-- nothing is wrong with the report of this table, over these stores
abbrev pub HasReport : List ℕ → List ℕ → List ℕ → List ℕ → Type 0
HasReport w base shadow opening = tree_cause w base shadow opening ≡ 0

-- the tree of the table that the day leaves, with the day's opening base store
unfoldable pub day_tree : List ℕ → List ℕ → List ℕ
day_tree shadow file =
    let after = (day_run shadow file).after in
    tree_text after.table after.base (opening_base file)

-- the text of a day, run or refused
unfoldable pub tree_of_day : Ledger → List ℕ → List ℕ → List ℕ
tree_of_day s opening file =
    cond (eqb (day_tree_cause s opening file) 0) (day_tree s.shadow file) (refused_line (day_tree_cause s opening file))

-- what the call gives back: the text's length, the buffer with the text at its front, the ledger and the opening store
pub record DayTree : Type 0 where
  pub size : ℕ
  pub buffer : List ℕ
  pub after : Ledger
  pub opening : List ℕ

abbrev pub day_tree_of : ℕ → List ℕ → Ledger → List ℕ → DayTree
day_tree_of size buffer after opening = record { size = size; buffer = buffer; after = after; opening = opening }

unfoldable pub run_day_tree : Ledger → List ℕ → List ℕ → List ℕ → DayTree
run_day_tree s opening file buffer =
    let cause = day_tree_cause s opening file in
    let text = tree_of_day s opening file in
    let after = cond (eqb cause 0) (day_run s.shadow file).after s in
    day_tree_of (length text) (put_at buffer 0 text) after (cond (eqb cause 0) (opening_base file) opening)
