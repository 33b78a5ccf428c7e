-- `put_listing` meets its contract: a day says what it puts. Assumes nothing.
use Rattle.std.proofs.Common.{◌≡◌, arith, length, rules}
use Rattle.listing.specs.Buffer.{listing_length}
use Rattle.rules.specs.Table.{new_table}
use Rattle.dayfile.proofs.Days.{day_size, day_out, printed_fits}
use Rattle.dayio.proofs.put_listing.Goals as goal

pub returns-clause-fits : goal.returns-clause-fits
returns-clause-fits c =
    let whole : length c.args.out.now ≡ listing_length = search rules in
    omega (arith, printed_fits _ _ _ c.day.ensures whole, whole)

pub returns-clause-size : goal.returns-clause-size
unfolding new_table
returns-clause-size c = day_size _ _ _ c.day.ensures

pub returns-clause-leaves : goal.returns-clause-leaves
unfolding new_table
returns-clause-leaves c = day_out _ _ _ c.day.ensures
