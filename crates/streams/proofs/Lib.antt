-- Facts about errors that those who read and write use.
pub mod Errors
