-- RULES 6: the serial run of R, demand 3, and R in the words of its rule, in the order in which one would explain them.
pub mod Effect
pub mod Block
pub mod Told
pub mod Collect
pub mod Schedule
pub mod Machine
pub mod Reach
pub mod Demand
pub mod Conserved
pub mod Starts
