-- What is proved of how far a piece reaches.
pub mod Laws
