-- Facts that the proofs of the searches use.
mod ClashSearch
mod AheadSearch
