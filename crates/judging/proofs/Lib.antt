-- What the proofs of the calls on the queues go by.
mod MetSiblings
mod Leaving
