-- What an event gives back, and where the part lies that a look gives.
pub mod Place
pub mod Promise
