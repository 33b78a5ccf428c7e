-- All of them hold.
pub mod ProperRuns
pub mod Cases
