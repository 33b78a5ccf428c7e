-- What is proved of opening a table.
pub mod Opens
