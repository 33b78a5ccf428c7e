-- What the functions on rows ask of their callers, times by kind, and newest end times in a row.
pub mod Row
pub mod Times
pub mod Ends
