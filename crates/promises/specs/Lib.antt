-- What is promised of the session: to the caller of a run, to any caller, and how soon a run is over.
pub mod Run
pub mod Promises
pub mod Soon
pub mod Caller
