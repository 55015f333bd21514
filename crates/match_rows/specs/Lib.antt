-- What the rows of a match are, as the code divides them.
pub mod MatchTable
