-- Laws of output.
pub mod Laws
