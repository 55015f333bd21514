-- The promises and the runs; laws of states and of places in the input, for the code.
pub mod Looked
pub mod Promises
pub mod Examples
pub mod Places
pub mod Served
