-- The proof of demand 3, in the order in which it is read. Up to Stale it knows nothing of tables, times or bytes; from
-- Shown on it is about the machine that takes the serial run's steps, from Acts on about which steps these are and what they
-- add to the charge accounts, and from Lineages on about R in the words of its rule.
pub mod Values
pub mod Blocks
pub mod AbstractState
pub mod Change
pub mod Events
pub mod Invariant
pub mod Grown
pub mod Preservation
pub mod Rule
pub mod Ground
pub mod GroundedRule
pub mod Stale
pub mod Ahead
pub mod Shown
pub mod Settling
pub mod MachineShows
pub mod Running
pub mod Acts
pub mod Held
pub mod Exact
pub mod Order
pub mod SameActs
pub mod Conserving
pub mod Lineages
pub mod Agreement
pub mod Following
