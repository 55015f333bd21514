-- Where a literal stands. A reader who believes Literal knows what the matcher answers; Sweeps is what it knows on its way.
pub mod Literal
pub mod Sweeps
pub mod Examples
