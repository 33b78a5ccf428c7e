-- RULES 1.3 and 1.6: the two kinds of action, each with a counter and a queue of its own. A kind is a number: the words of a
-- counter and of a queue stand by it. Assumes nothing.
use Rattle.std.specs.Prelude.{ℕ, ◌<◌, cond, List, eqb}
use Rattle.rules.specs.Range.{up_from}

abbrev pub kind_count : ℕ
kind_count = 2

abbrev pub IsKind : ℕ → Type 0
IsKind h = h < kind_count

-- the topactions, and all other actions
abbrev pub top_kind : ℕ
top_kind = 0

abbrev pub sub_kind : ℕ
sub_kind = 1

unfoldable pub kinds : List ℕ
kinds = up_from top_kind kind_count

-- the kind of the children of p, which is 0 for the store
unfoldable pub kind_under : ℕ → ℕ
kind_under p = cond (eqb p 0) top_kind sub_kind
