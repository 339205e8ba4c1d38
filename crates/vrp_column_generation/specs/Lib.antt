pub mod Progress
pub mod Last
pub mod Pools
