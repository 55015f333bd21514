-- What is proved of the rows of a match.
pub mod Laws
