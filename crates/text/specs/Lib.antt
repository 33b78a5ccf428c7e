-- Numbers and lines as text, and a text put into a buffer.
pub mod Text
pub mod Put
