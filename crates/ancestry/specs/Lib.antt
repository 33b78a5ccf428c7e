-- What a walk up the parents asks of its caller, and how it counts.
pub mod Ancestry
pub mod Seen
