pub mod Drawn
pub mod Inner
pub mod Pile
pub mod Caller
pub mod Costs
pub mod History
