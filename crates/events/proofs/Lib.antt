-- Facts that the proofs of the events use.
mod AbortMarks
mod Orphans
