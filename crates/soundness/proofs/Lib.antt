-- Facts that the proofs of the test use.
mod AccountReads
mod BothKinds
mod HeldEnds
mod LiveActions
mod NewestWords
mod PendingWords
mod QueueNumbers
mod ReadTimes
mod TestedParents
