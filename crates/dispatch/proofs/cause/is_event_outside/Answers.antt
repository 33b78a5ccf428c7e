-- `is_event_outside` asks of the sums that an event with its code makes. Assumes nothing.
use Rattle.dispatch.proofs.Permitted.{may_read, may_add, may_commit}
use Rattle.dispatch.proofs.cause.is_event_outside.Goals as goal

pub is_read_outside-requires-clause-readable : goal.is_read_outside-requires-clause-readable
is_read_outside-requires-clause-readable c = may_read _ c.requires.sound _ c.requires.code c.requires.allowed c.in-Read.is

pub is_add_outside-requires : goal.is_add_outside-requires
is_add_outside-requires c =
    let may = may_add _ c.requires.sound _ c.requires.code c.requires.allowed c.in-Add.is in
    record { has_row = may.0; charge = may.1 }

pub is_commit_outside-requires-clause-sound : goal.is_commit_outside-requires-clause-sound
is_commit_outside-requires-clause-sound c =
    (c.requires.sound, may_commit _ c.requires.sound _ c.requires.code c.requires.allowed c.in-Commit.is)
