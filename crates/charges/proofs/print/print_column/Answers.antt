-- `print_column` meets its contract: what is written is a part of the buffer, since any text fits it, and it is the text of what
-- was read. Assumes nothing.
use Rattle.std.proofs.Common.{ℕ, ◌+◌, arith, sym, subst, length-take-le}
use lib.ListN.{length-replicate}
use Rattle.std.specs.Io.KnownBytes.{Appends}
use Rattle.streams.specs.Parts.{AppendsFront}
use Rattle.charges.specs.List.{list_length}
use Rattle.charges.specs.Column.{column_length}
use Rattle.charges.specs.Printed.{PrintsPart}
use Rattle.text.proofs.Texts.{text_in_front}
use Rattle.streams.proofs.Errors.{on_err}
use Rattle.charges.proofs.Lines.{printed_fits}
use Rattle.charges.proofs.Prints.{prints_column}
use Rattle.charges.proofs.print.print_column.Goals as goal

pub slice_bounds-text-end : goal.slice_bounds-text-end
slice_bounds-text-end g c =
    printed_fits _ _ (length-replicate {A = ℕ} column_length 0) (c.column-k.ensures.next, c.column-k.ensures.leaves)

pub slice_bounds-write_full-end : goal.slice_bounds-write_full-end
slice_bounds-write_full-end g c =
    sym (length-take-le _ _
    (printed_fits _ _ (length-replicate {A = ℕ} column_length 0) (c.column-k.ensures.next, c.column-k.ensures.leaves)))

pub returns-clause-text : goal.returns-clause-text
returns-clause-text g c =
    let put = text_in_front _ _ (c.column-k.ensures.next, c.column-k.ensures.leaves) in
    let whole = length-replicate {A = ℕ} (list_length + 1) 0 in
    prints_column _ _ _ _ _ c.in_ok-n.ensures.bytes
    (λ short. c.in_ok-n.ensures.end (omega (arith, short, c.in_ok-n.ensures.bound.1, c.read_full.auto.buf, whole)))
    (subst (Appends _ _) put c.in_ok-write_full.ensures.bytes)

pub returns-in_err-write_full-clause-failed : goal.returns-in_err-write_full-clause-failed
returns-in_err-write_full-clause-failed g c =
    let put = text_in_front _ _ (c.column-k.ensures.next, c.column-k.ensures.leaves) in
    on_err {P = PrintsPart _ _ _ _} _ record {
      read = record { bytes = _; gone = c.in_ok-n.ensures.bytes };
      file = _;
      written = subst (AppendsFront _ _) put c.in_err-write_full.ensures.failed;
    }
