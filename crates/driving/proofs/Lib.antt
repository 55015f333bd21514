-- What is proved of feeding.
pub mod Laws
