-- RULES 6.4: an action's block. The block of number 0, the store, holds those of the topactions that committed, in the order
-- of their commits. Assumes nothing.
use Rattle.std.specs.Prelude.{ℕ}

-- A block grows at its end, event by event. A place is the index of an event in S; `whole` is a child's block.
pub data Block (E : Type 0) : Type 0 where
  empty : Block E
  read : (before : Block E) (place account : ℕ) → Block E
  write : (before : Block E) (place account : ℕ) (effect : E) → Block E
  child : (before : Block E) (place who : ℕ) (whole : Block E) → Block E
