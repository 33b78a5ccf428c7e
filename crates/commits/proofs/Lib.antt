-- Facts that the proofs of a commit use.
mod FittingSums
mod Keeping
mod NextTurn
mod Noting
