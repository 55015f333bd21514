-- Proofs of the promises.
pub mod Runs
pub mod Leads
pub mod Feeds
pub mod Counted
pub mod Closings
pub mod Said
pub mod Turns
pub mod Settles
pub mod Unique
pub mod Promises
