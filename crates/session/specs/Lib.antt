-- 01, "A session", as functions of a session, a window, a piece and a row table.
pub mod Held
pub mod Sound
pub mod Calls
pub mod Place
pub mod Driven
