-- Facts that the proofs of walks use.
mod Summing
mod WayUp
