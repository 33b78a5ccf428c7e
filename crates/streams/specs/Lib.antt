-- What a stream is left with where a read or a write fails, and what is known of a text that is written.
pub mod Parts
pub mod Printed
