-- `start` gives the number that the table has free. Assumes nothing.
use mathlib.Core.Path.{◌≡◌}
use Rattle.std.proofs.Common.{rules}
use Rattle.rules.specs.Free.{next_number}
use Rattle.rules.proofs.Laws.Freeing.{next_givable}
use Rattle.events.proofs.start.start.Goals as goal

pub give-requires-clause-action : goal.give-requires-clause-action
give-requires-clause-action c =
    let free = next_givable _ c.requires.sound.few c.requires.has_free_number in
    let same : c.unwrap-n.result ≡ next_number c.args.table.now = search rules in
    rw same (free.first, free.few)
