-- Cited only by contracts of private functions; no reader has to believe it.
pub mod Answered
pub mod InMemory
pub mod KeptNumeral
pub mod LinesLeft
pub mod MarkedKeys
pub mod NextLines
pub mod NodeFaults
pub mod OpenPart
pub mod Outcome
pub mod PlacedRows
pub mod StatedSoFar
pub mod WordTable
