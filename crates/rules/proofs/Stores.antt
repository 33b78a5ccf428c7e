-- The two stores: what stands there between two turns of a commit, what events leave as it was, and what looks and reads hand
-- back.
pub mod LastFirst
pub mod Leaves
pub mod Committed
pub mod Leavers
pub mod Untouched
pub mod Looking
pub mod ReadAnswers
