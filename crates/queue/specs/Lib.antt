-- What the functions on a queue ask of their callers, and where an action stands in one.
pub mod Line
