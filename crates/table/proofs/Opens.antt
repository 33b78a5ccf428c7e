-- Under either rule a table opens wherever the buffer has a table's length. Assumes nothing.
use Prim.Native.Nat.{ℕ}
use mathlib.Core.Path.{◌≡◌}
use mathlib.Core.List.{List}
use borrow.Author.Tests.{eq-eqb}
use Rattle.rules.specs.declared.rule.Rule.{Rule}
use Rattle.rules.specs.declared.rule.Rule.TheVariants.{Backward, Forward}
use Rattle.rules.specs.Rule.{rule_number}
use Rattle.rules.specs.Table.{table_length}
use Rattle.table.specs.Open.{IsTableLong, open_cause}

pub opens : (buffer : List ℕ) (rule : Rule) → IsTableLong buffer → open_cause buffer (rule_number rule) ≡ 0
opens buffer Backward long = rw (eq-eqb _ table_length long)
opens buffer Forward long = rw (eq-eqb _ table_length long)
