-- Cited only by inner contracts; no reader has to believe it.
pub mod Solving
pub mod Pieces
pub mod Workers
