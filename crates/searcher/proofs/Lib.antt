-- What is proved of the door.
pub mod Laws
pub mod Outcomes
