-- RULES 9: the day file, and the base store that it opens with.
pub mod File
pub mod Opening
