-- RULES 11.1: opening a table. Assumes nothing.
use Rattle.std.specs.Prelude.{ℕ, ◌≡◌, cond, List, eqb, length}
use Rattle.rules.specs.Table.{table_length, is_rule, new_table_under}
use Rattle.rules.specs.Cause.{unsound_cause, rule_cause}

-- the buffer has a table's length
abbrev pub IsTableLong : List ℕ → Type 0
IsTableLong buffer = length buffer ≡ table_length

-- the cause: that of a buffer of another length, then that of a rule that is none; 0 where both are right
abbrev pub open_cause : List ℕ → ℕ → ℕ
open_cause buffer r = cond (eqb (length buffer) table_length) (cond (is_rule r) 0 rule_cause) unsound_cause

-- the new table, under rule 1 where r is no rule; a buffer of another length stays as it was
abbrev pub open_table : List ℕ → ℕ → List ℕ
open_table buffer r = cond (eqb (length buffer) table_length) (new_table_under r) buffer
