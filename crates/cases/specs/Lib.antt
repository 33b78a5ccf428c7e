-- The worked cases, moments of a commit, newest end times, a serial run and an R worked through, and trees.
pub mod Case
pub mod BothRules
pub mod Cases
pub mod Moments
pub mod Newests
pub mod Example
pub mod InR
pub mod Trees
