-- What is proved of words among bytes and of sums of amounts.
mod Words
pub mod Places
pub mod Sums
