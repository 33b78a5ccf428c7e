-- What is found against a commit: the clash list, the search that finds its first clash, and the verdict by the newest end times;
-- the readers ahead; and what a commit answers by either.
pub mod Firsts
pub mod Clashes
pub mod Records
pub mod Searching
pub mod Known
pub mod Rivals
pub mod Readers
pub mod CommitAnswers
