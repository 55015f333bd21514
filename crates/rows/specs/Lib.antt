-- What the rows of before-context are as numbers.
pub mod Table
