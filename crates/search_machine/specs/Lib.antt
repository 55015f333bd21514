-- The program `search` as a machine, what it is promised to print, and what its code is held to.
pub mod Head
pub mod Search
pub mod Promises
pub mod Examples
pub mod Standing
pub mod Served
