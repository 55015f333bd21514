-- What is proved of the session, call by call.
pub mod Parts
pub mod Refusals
pub mod Ways
pub mod Agree
pub mod Cases
pub mod Keeps
pub mod Shown
pub mod Driven
