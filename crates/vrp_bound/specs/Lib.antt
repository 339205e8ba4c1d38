pub mod AtPrefix
pub mod Bound
pub mod Capacity
pub mod Inner
pub mod LowerBound
pub mod NgWalks
pub mod Tables
pub mod Walk
