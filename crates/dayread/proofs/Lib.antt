-- Facts that the proofs of reading a day file use.
pub mod Faultless
