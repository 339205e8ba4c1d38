-- Cited only by inner contracts; no reader has to believe it.
pub mod Named
pub mod Points
pub mod Ready
pub mod Starts
pub mod Told
pub mod Written
