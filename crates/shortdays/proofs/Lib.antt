-- Events written into a list, where the search stands, places among the lists, and the call.
mod Asked
mod BroughtBack
mod Places
mod Standing
mod WholeDays
mod Writing
