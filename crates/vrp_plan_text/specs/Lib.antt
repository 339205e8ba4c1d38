pub mod Gap
pub mod Inner
pub mod Json
pub mod Line
pub mod Name
pub mod Solution
pub mod Stops
