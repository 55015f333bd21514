-- What is proved of offering.
pub mod Laws
