-- Laws of turns in the text.
pub mod Answers
pub mod Looping
