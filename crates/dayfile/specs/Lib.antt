-- RULES 11.4 and 12.9: a whole day in one call, with its listing or with its tree.
pub mod Day
pub mod Tree
