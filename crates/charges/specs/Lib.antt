-- A list of charges, its faults, its accounts' running records, and the lines printed of it.
pub mod List
pub mod Running
pub mod Column
pub mod Printed
pub mod Worked
