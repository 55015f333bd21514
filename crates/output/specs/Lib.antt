-- What output does to its buffer.
pub mod Output
