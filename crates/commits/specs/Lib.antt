-- What the parts of a commit ask of their callers, and what becomes of one with a sum that is no amount.
pub mod Fit
pub mod Outside
