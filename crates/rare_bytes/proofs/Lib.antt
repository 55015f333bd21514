-- What is proved of the choice.
pub mod Rarity
pub mod Examples
