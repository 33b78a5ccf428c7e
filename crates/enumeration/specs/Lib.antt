-- What a short day is, the lists of all of them, the order in which they stand, and what is claimed of the lists.
pub mod ShortDay
pub mod Lists
pub mod Order
pub mod Enumerates
pub mod Worked
