-- The positions of a queue, and the numbers that stand there; the newest end times of a parent's records, and the parents that are
-- tested.
pub mod Positions
pub mod Held
pub mod Reads
pub mod Passed
