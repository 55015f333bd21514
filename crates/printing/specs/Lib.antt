-- What the programs print, byte for byte.
pub mod Texts
