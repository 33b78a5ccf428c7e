-- The theorems about all short days.
pub mod Numbers
pub mod Candidates
pub mod Beginnings
pub mod Taken
pub mod Only
pub mod Every
pub mod Rising
pub mod Theorem
pub mod ReadBack
pub mod ProperLists
pub mod Worked
