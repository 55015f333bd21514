-- What a read did to the input, and where a line ends in it.
pub mod Input
