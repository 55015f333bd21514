-- What of a piece comes in.
pub mod Reached
