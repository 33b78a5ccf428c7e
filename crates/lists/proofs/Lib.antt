-- A list event by event.
pub mod ListRun
