-- The choice of two bytes, which is only about speed.
pub mod Choice
pub mod Examples
