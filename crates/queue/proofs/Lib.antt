-- Facts that the proofs on a queue use.
mod Positions
mod Putting
mod Closing
pub mod OwnQueue
