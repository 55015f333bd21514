-- What is proved of the literal matcher.
pub mod Blocks
