pub mod Fault
pub mod Input
pub mod StopNumbers
pub mod Output
pub mod Refusal
pub mod Report
pub mod Hints
