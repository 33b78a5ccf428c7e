-- What the functions that make a report ask of their callers, and the lines that they put.
pub mod Asked
pub mod Lined
