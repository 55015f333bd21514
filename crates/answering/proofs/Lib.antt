-- What is proved of answering in a window.
pub mod Laws
