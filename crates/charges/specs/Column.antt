-- RULES 14.4 and 14.5: the text printed of a list. Assumes nothing.
use Rattle.std.specs.Prelude.{ℕ, zero, suc, ◌+◌, cond, List, [], ◌∷◌, ◌++◌, ◌==◌, to_bits}
use Rattle.std.specs.Float.{binary64}
use Rattle.rules.specs.Card.{first_charge, charge_count}
use Rattle.text.specs.Text.{space, line_feed, decimal, signed, hexadecimal, refused_line}
use Rattle.charges.specs.declared.running.Running.{Running}
use Rattle.charges.specs.List.{list_fault}
use Rattle.charges.specs.Running.{running_of}

-- the cents of a record, and the bits of its old total, each with a space before it
unfoldable pub cents_text : Running → List ℕ
cents_text r = space ∷ signed r.cents

unfoldable pub old_text : Running → List ℕ
old_text r = space ∷ hexadecimal (to_bits binary64 r.old)

-- the line of an account
unfoldable pub account_line : ℕ → Running → List ℕ
account_line a r = decimal a ++ cents_text r ++ old_text r ++ (line_feed ∷ [])

-- the lines of the first n charge accounts
unfoldable pub account_lines : List ℕ → ℕ → List ℕ
account_lines list zero = []
account_lines list (suc n) = account_lines list n ++ account_line (first_charge + n) (running_of list (first_charge + n))

-- the text of a list: the lines of all charge accounts, or the one of a list that is refused
unfoldable pub column_text : List ℕ → List ℕ
column_text list = cond (list_fault list == 0) (account_lines list charge_count) (refused_line (list_fault list))

-- RULES 14.5: the bytes of the buffer
abbrev pub column_length : ℕ
column_length = 256
