-- What the calls on the queues ask of their callers, and parts of what they give and leave.
pub mod Asked
pub mod Reveal
