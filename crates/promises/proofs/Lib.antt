-- The promises proved.
pub mod Only
pub mod Invariant
pub mod Taking
pub mod Giving
pub mod History
pub mod Finish
pub mod Carry
pub mod Room
pub mod Caller
pub mod Soon
pub mod Promises
