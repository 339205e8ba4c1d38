pub mod Arcs
pub mod Units
pub mod Priced
pub mod LabelTest
pub mod Closed
pub mod Fault
pub mod Passed
