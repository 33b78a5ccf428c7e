-- `print_text` meets its contract: what is written is the part of the buffer where the text stands. Assumes nothing.
use Rattle.std.proofs.Common.{arith, refl, sym, subst, length-take-le}
use Rattle.std.specs.Io.KnownBytes.{Appends}
use Rattle.streams.specs.Parts.{AppendsFront}
use Rattle.streams.proofs.Errors.{on_err}
use Rattle.text.proofs.Texts.{text_in_front}
use Rattle.dayio.specs.Printed.{PrintsPart}
use Rattle.dayio.proofs.print_text.Goals as goal

pub slice_bounds-listing-end : goal.slice_bounds-listing-end
slice_bounds-listing-end g c = omega (arith, c.requires.fits _ _ _ _ refl c.f-k.ensures, c.type_inv.listing)

pub slice_bounds-write_full-end : goal.slice_bounds-write_full-end
slice_bounds-write_full-end g c =
    sym (length-take-le _ _ (omega (arith, c.requires.fits _ _ _ _ refl c.f-k.ensures)))

pub returns-in_err-write_full-clause-failed : goal.returns-in_err-write_full-clause-failed
returns-in_err-write_full-clause-failed g c text puts =
    let front = text_in_front _ _ (puts _ _ _ _ refl c.f-k.ensures) in
    on_err {P = PrintsPart text _ _ _ _} _ record {
      read = record { bytes = _; gone = c.in_ok-n.ensures.bytes };
      file = _;
      written = subst (AppendsFront _ _) front c.in_err-write_full.ensures.failed;
    }

pub returns-clause-size : goal.returns-clause-size
returns-clause-size g c text puts = record { file = _; is = (puts _ _ _ _ refl c.f-k.ensures).0 }

pub returns-clause-prints : goal.returns-clause-prints
returns-clause-prints g c text puts =
    let front = text_in_front _ _ (puts _ _ _ _ refl c.f-k.ensures) in
    record {
      file = _;
      read = c.in_ok-n.ensures.bytes;
      written = subst (Appends _ _) front c.in_ok-write_full.ensures.bytes;
    }
