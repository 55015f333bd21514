-- What is proved of one line answered.
pub mod Laws
