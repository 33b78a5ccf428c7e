-- What opening a table gives back; its three numbers are definitions of the rules.
pub mod Open
