-- `put_tree` meets its contract: a day's tree says what it puts. Assumes nothing.
use Rattle.std.proofs.Common.{◌≡◌, arith, length, rules}
use Rattle.listing.specs.Buffer.{listing_length}
use Rattle.rules.specs.Table.{new_table}
use Rattle.dayfile.proofs.DayTree.{tree_size, tree_out, tree_printed_fits}
use Rattle.dayio.proofs.put_tree.Goals as goal

pub returns-clause-fits : goal.returns-clause-fits
returns-clause-fits c =
    let whole : length c.args.out.now ≡ listing_length = search rules in
    omega (arith, tree_printed_fits _ _ _ _ c.tree.ensures c.tree.auto.opening whole, whole)

pub returns-clause-size : goal.returns-clause-size
unfolding new_table
returns-clause-size c = tree_size _ _ _ _ c.tree.ensures c.tree.auto.opening

pub returns-clause-leaves : goal.returns-clause-leaves
unfolding new_table
returns-clause-leaves c = tree_out _ _ _ _ c.tree.ensures c.tree.auto.opening
