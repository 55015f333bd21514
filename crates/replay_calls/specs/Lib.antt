-- What a call gives.
pub mod Gave
