pub mod Answer
pub mod Finding
pub mod Gatherer
pub mod Inner
pub mod Outcomes
