-- The search for the lowest free number, step by step.
pub mod Lowest
