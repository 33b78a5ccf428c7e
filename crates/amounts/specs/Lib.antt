-- Words among bytes, and sums of amounts.
pub mod Word
pub mod Sum
