-- Laws of hexadecimal digits.
pub mod Laws
