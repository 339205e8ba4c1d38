-- Cited only by inner contracts; no reader has to believe it.
pub mod Kept
pub mod LeastArcs
pub mod Listing
pub mod Marks
pub mod Places
pub mod Rows
pub mod Stops
pub mod Symmetry
pub mod Before
