-- The whole-input definition of document 01. A reader who believes Bounds, Text, Rows and Definition knows what a search must give.
pub mod Bounds
pub mod Text
pub mod Rows
pub mod Definition
pub mod Numbers
pub mod State
pub mod Laws
pub mod Examples
