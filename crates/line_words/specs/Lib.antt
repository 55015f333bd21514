-- What words and numbers mean, on lists of bytes.
pub mod Words
pub mod Numbers
