-- What the line rules mean, on lists.
pub mod Lines
