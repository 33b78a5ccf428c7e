-- RULES 1: the ledger. Every call is lent one: the table and the two stores. Assumes nothing.
use Rattle.std.specs.Prelude.{ℕ, List}

pub record Ledger : Type 0 where
  pub table : List ℕ
  pub base : List ℕ
  pub shadow : List ℕ

abbrev pub ledger_of : List ℕ → List ℕ → List ℕ → Ledger
ledger_of table base shadow = record { table = table; base = base; shadow = shadow }

-- the ledger with another table
abbrev pub with_table : Ledger → List ℕ → Ledger
with_table s w = ledger_of w s.base s.shadow
