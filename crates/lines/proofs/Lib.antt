-- What is proved of the line rules.
pub mod Laws
