-- Where the search begins, and how it goes on.
pub mod FirstRead
pub mod NextRecord
