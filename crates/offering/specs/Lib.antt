-- What an offer is to do, as the code passes it on.
pub mod Plan
