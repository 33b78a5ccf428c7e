-- How the groups of causes make up all of them.
pub mod Grouped
