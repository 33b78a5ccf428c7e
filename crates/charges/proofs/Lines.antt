-- How long the lines of a column are: 32 bytes at most, so that eight of them fit 256. Assumes nothing.
use Rattle.std.proofs.Common.{◌≡◌, ℕ, zero, suc, ◌+◌, ◌*◌, ◌<◌, ◌≤◌, eqb, List, length, ℤ, pos, negsuc, nat_abs, arith, length-append, eqb-true}
use lib.Ieee.{binary64, to_bits}
use Rattle.rules.specs.Card.{account_count, first_charge, charge_count}
use Rattle.rules.proofs.Laws.Tests.{cond_holds}
use Rattle.rules.proofs.Laws.Integers.{up, dn}
use Rattle.text.specs.Text.{decimal, refused_line}
use Rattle.text.proofs.Decimals.{decimal_below, signed_below}
use Rattle.text.specs.Put.{put_at}
use Rattle.text.proofs.Texts.{put_at_length}
use Rattle.text.proofs.RefusedLine.{refused_bound}
use Rattle.text.proofs.Hexadecimals.{hexadecimal_length}
use Rattle.charges.specs.declared.running.Running.{Running}
use Rattle.charges.specs.List.{most_charges, charges_in, list_fault}
use Rattle.charges.specs.Running.{running_of}
use Rattle.charges.specs.Column.{cents_text, old_text, account_line, account_lines, column_text, column_length}
use Rattle.charges.proofs.Faults.{Good, good}
use Rattle.charges.proofs.Totals.{Kept, running_kept}

pub length_of_line :
    (a : ℕ) (r : Running) → length (account_line a r) ≡ length (decimal a) + length (cents_text r) + length (old_text r) + 1
unfolding account_line
length_of_line a r = simp length-append (omega arith)

absolute : (z : ℤ) → nat_abs z ≡ up z + dn z
unfolding up dn
absolute (pos n) = omega arith
absolute (negsuc n) = omega arith

-- a space, a sign and 10 digits: 1,000 charges of 1,000,000 either way
cents_bound : (n : ℕ) (r : Running) → n ≤ most_charges → Kept n r → length (cents_text r) ≤ 12
unfolding cents_text
cents_bound n r few kept =
    omega (arith, signed_below 9 r.cents (omega (arith, absolute r.cents, kept.bounded)))

-- a space and 16 digits
old_length : (r : Running) → length (old_text r) ≡ 17
unfolding old_text
old_length r = omega (arith, hexadecimal_length (to_bits binary64 r.old))

abbrev line_length : ℕ
line_length = 32

module _ (list : List ℕ) (fine : Good list) where
  line_bound : (a : ℕ) → a < account_count → length (account_line a (running_of list a)) ≤ line_length
  line_bound a known =
      omega (
        arith,
        length_of_line a (running_of list a),
        decimal_below 1 a (omega arith),
        cents_bound (charges_in list) (running_of list a) fine.few (running_kept list a fine (charges_in list) (omega arith)),
        old_length (running_of list a),
      )

  lines_bound : (n : ℕ) → n ≤ charge_count → length (account_lines list n) ≤ line_length * n
  unfolding account_lines
  lines_bound zero h = omega arith
  lines_bound (suc n) h =
      simp length-append (omega (arith, lines_bound n (omega arith), line_bound (first_charge + n) (omega arith)))

  -- behind the lines of some accounts there is room for the next one's
  pub line_fits :
      (n : ℕ) → n < charge_count →
      length (account_lines list n) + length (account_line (first_charge + n) (running_of list (first_charge + n))) ≤ column_length
  line_fits n more = omega (arith, lines_bound n (omega arith), line_bound (first_charge + n) (omega arith))

-- every text fits the buffer, also that of a refused list
all_lines_fit : (list : List ℕ) → Good list → length (account_lines list charge_count) ≤ column_length
all_lines_fit list fine = omega (arith, lines_bound list fine charge_count (omega arith))

refused_fits : (fault : ℕ) → length (refused_line fault) ≤ column_length
refused_fits fault = omega (arith, refused_bound fault)

text_bound : (list : List ℕ) → length (column_text list) ≤ column_length
unfolding column_text
text_bound list =
    cond_holds (λ (text : List ℕ). length text ≤ column_length) (eqb (list_fault list) 0)
    (λ none. all_lines_fit list (good list (record { faultless = eqb-true (list_fault list) 0 none })))
    (λ _. refused_fits (list_fault list))

-- so what a call has put into a buffer of that length is a part of it
pub printed_fits :
    {k : ℕ} {after : List ℕ} (list buffer : List ℕ) → length buffer ≡ column_length
    → (k ≡ length (column_text list)) × (after ≡ put_at buffer 0 (column_text list)) → k ≤ length after
printed_fits list buffer room put =
    let inside : 0 + length (column_text list) ≤ length buffer = omega (arith, text_bound list) in
    rw (put.1, put_at_length buffer (column_text list) 0 inside) (omega (arith, put.0))
