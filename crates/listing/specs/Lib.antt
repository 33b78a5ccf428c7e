-- RULES 10 and 12.8: the lines of a listing and of a tree, and how they are put into a buffer from words.
pub mod Listing
pub mod Buffer
pub mod Rows
pub mod Tree
pub mod Report
