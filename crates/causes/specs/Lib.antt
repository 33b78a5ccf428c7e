-- The causes that are asked together.
pub mod Groups
