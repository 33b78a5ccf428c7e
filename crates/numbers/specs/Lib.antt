-- The number that a start gives, if there is one.
pub mod Number
