-- Laws of what a call did.
pub mod Laws
