-- What an event asks of its caller, and what those that make a sum give back.
pub mod Asked
pub mod Sums
