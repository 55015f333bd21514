-- Laws of what is printed.
pub mod Laws
