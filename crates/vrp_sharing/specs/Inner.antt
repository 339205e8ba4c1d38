-- Cited only by inner contracts; no reader has to believe it.
pub mod Piled
pub mod Kept
pub mod Seats
