-- What a call of read or write did.
pub mod Moves
