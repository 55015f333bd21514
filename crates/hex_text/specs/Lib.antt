-- Bytes as hexadecimal digits.
pub mod Hex
