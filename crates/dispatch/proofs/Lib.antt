-- What a step is, by its code, where no early cause applies, and what the event may then ask for.
mod Permitted
mod Summed
