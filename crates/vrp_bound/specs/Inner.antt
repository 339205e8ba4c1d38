-- Cited only by inner contracts; no reader has to believe it.
pub mod CompletionCells
pub mod Filled
pub mod NgCells
pub mod NgScaled
pub mod Scaled
pub mod Scope
pub mod Units
