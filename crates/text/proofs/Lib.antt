-- Facts that the proofs of texts in a buffer use, here and in the crates that put them there.
mod CopiedText
pub mod Texts
pub mod Decimals
pub mod Hexadecimals
pub mod RefusedLine
