-- What is proved of the definition.
pub mod Lists
pub mod Terminator
pub mod Uncut
pub mod Fates
pub mod Kept
pub mod Given
pub mod Same
pub mod Examples
