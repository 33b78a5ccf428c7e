-- Facts that the proofs of a listing and of a tree use.
mod Pieces
pub mod Bounds
mod Starts
pub mod AnswerLines
mod RowWords
mod AnswerRows
mod TreeRows
pub mod TreePieces
pub mod TreeText
