-- What the words of a line ask for.
pub mod Commands
