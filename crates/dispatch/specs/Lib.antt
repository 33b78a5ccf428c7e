-- An event in a list of bytes.
pub mod Listed
