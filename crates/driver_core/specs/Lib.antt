-- What every way in shares: a walk, and one line answered from there. Nothing here speaks of a window.
pub mod Walk
pub mod Answer
pub mod Step
pub mod Examples
