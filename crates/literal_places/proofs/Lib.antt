-- What is proved of the places of a literal.
pub mod Stands
pub mod Sweeps
pub mod Examples
