-- Facts that the proofs on rows use.
mod Joining
pub mod KindNumbers
pub mod Numbered
pub mod JoinedWords
