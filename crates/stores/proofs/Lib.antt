-- Facts that the proofs of copies use.
pub mod CopiedCard
