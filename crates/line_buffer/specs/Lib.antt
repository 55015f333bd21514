-- What the rolling buffer does to a window, on lists.
pub mod Buffer
