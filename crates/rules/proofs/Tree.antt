-- The tree of a table: a line for each action that is shown, and that opening and sum make closing.
pub mod Carried
pub mod Quiet
pub mod CalmEvents
pub mod Adding
pub mod Starting
pub mod CommitSums
pub mod Committing
pub mod ByChange
pub mod Kept
pub mod Numbers
pub mod Held
pub mod Shown
pub mod Lines
pub mod NotRefused
pub mod Theorem
