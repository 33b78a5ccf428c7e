-- What is proved of the rules.
pub mod Laws
pub mod Copies
pub mod Sound
pub mod Clash
pub mod Stores
pub mod Serial
pub mod Demand
pub mod History
pub mod Tree
