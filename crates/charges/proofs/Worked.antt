-- The worked lists of RULES 14.6, proved by computing, and those whose length alone is wrong, whatever they are. Assumes nothing.
use Rattle.std.proofs.Common.{◌≡◌, ℕ, ◌%◌, ◌<◌, ◌≤◌, ◌≢◌, List, length, refl, le-ltb, lt-ltb, ne_eqb}
use mathlib.Core.List.{flat_map}
use lib.Ieee.{add, div, of_int, to_bits}
use Rattle.rules.specs.Amount.{amount_of, amount_word, is_addable, low_first, bytes_low_first}
use Rattle.text.specs.Text.{decimal_within, signed, hexadecimal, refused_line}
use Rattle.charges.specs.List.{charge_length, list_length, charge_fault, charges_fault, list_fault}
use Rattle.charges.specs.Running.{hundred, charged_of, charged_by, running_after}
use Rattle.charges.specs.Column.{cents_text, old_text, account_line, account_lines, column_text}
use Rattle.charges.specs.Worked.{list_of, totals_text, lists1_to6, totals1_to6, totals9, lists10_to16, faults10_to16, Print}

-- the length is asked first
long_refused : (list : List ℕ) → list_length < length list → column_text list ≡ refused_line 11
unfolding column_text list_fault
long_refused list long = rw (lt-ltb list_length (length list) long)

cut_refused : (list : List ℕ) → length list ≤ list_length → length list % charge_length ≢ 0 → column_text list ≡ refused_line 10
unfolding column_text list_fault
cut_refused list short cut = rw (le-ltb list_length (length list) short, ne_eqb (length list % charge_length) 0 cut)

pub worked_lists : Print
unfolding flat_map add div of_int to_bits amount_of amount_word is_addable low_first bytes_low_first decimal_within signed hexadecimal charge_fault charges_fault list_fault hundred charged_of charged_by running_after cents_text old_text account_line account_lines column_text list_of totals_text lists1_to6 totals1_to6 totals9 lists10_to16 faults10_to16
worked_lists = record { figures = refl; empty = refl; faults = refl; long = long_refused; cut = cut_refused }
