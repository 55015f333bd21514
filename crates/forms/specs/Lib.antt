-- What the written forms mean, on lists of bytes.
pub mod Limits
pub mod First
