-- What is proved of the rolling buffer.
pub mod Laws
