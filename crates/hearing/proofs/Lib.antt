-- Laws of what a read gave.
pub mod Hearings
