-- What the parts of the code lean on.
pub mod Waiting
