-- What one line brings, as the code divides it.
pub mod Fated
