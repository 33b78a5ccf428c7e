-- What is left between the calls that a day makes.
pub mod Days
pub mod DayTree
