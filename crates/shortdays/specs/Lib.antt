-- Events written into a list, what a search gives back, and what the call does.
pub mod Written
pub mod Search
pub mod Call
