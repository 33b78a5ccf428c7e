-- What a C caller is given: an answer as numbers, and a look's card; all else is promised by the calls passed on to.
pub mod Given
