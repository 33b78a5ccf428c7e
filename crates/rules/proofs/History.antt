-- No verdict is lost: what a table must remember of the records that each parent has had, that every step keeps it, and that the
-- first clash is the first with all of them.
pub mod Remembered
pub mod Following
pub mod Calm
pub mod Starting
pub mod Committing
pub mod Leaving
pub mod Kept
pub mod Verdicts
pub mod Theorem
pub mod Newest
