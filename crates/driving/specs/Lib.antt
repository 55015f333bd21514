-- What the calls hand back.
pub mod Door
