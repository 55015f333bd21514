-- What the public calls hand back.
pub mod Door
pub mod Outcomes
