-- What a list call gives back.
pub mod Listed
