-- Laws of the two lines before the text.
pub mod Heads
