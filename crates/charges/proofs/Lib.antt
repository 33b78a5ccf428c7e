-- Facts that the proofs of a column use.
mod SignedWords
mod Numbers
mod Charges
mod Faults
mod Totals
mod Lines
pub mod Worked
mod Prints
