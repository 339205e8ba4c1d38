pub mod AllArcs
pub mod Beginnings
pub mod Carried
pub mod PassSteps
