-- What is known of a listing or a tree whose file comes from outside.
pub mod Printed
