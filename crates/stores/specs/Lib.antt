-- What the functions on stores ask of their callers.
pub mod Fit
