-- The copies of a commit: where cards stand, one account's turn, all turns from the last account down, what stands between two
-- of them and after all, and that their order changes nothing of it.
pub mod Lines
pub mod Turns
pub mod Falling
pub mod Between
pub mod Whole
pub mod EitherOrder
