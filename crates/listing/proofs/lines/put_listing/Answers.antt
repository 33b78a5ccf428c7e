-- `put_listing` meets its contract: the last line is put right behind the lines, and there is room for both. Assumes nothing.
use mathlib.Core.Path.{sym}
use Rattle.listing.specs.Buffer.{listing_of}
use Rattle.text.proofs.Texts.{writes_then}
use Rattle.listing.proofs.lines.put_listing.Goals as goal

pub returns : goal.returns
unfolding listing_of
returns c =
    rw (sym c.count_starts-starts.ensures, sym c.top_counter-top.ensures, sym c.sub_counter-sub.ensures)
    (writes_then c.put_lines.ensures c.put_end.ensures)
