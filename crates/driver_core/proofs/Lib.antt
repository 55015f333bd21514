-- What is proved of a walk.
pub mod Laws
pub mod Back
pub mod Keeps
pub mod Examples
