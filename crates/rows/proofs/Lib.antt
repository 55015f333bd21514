-- What is proved of the table's rows.
pub mod Laws
