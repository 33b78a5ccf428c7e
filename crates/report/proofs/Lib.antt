-- What is proved of reports as the functions make them.
mod Words
mod Fitting
pub mod Causes
mod Lining
