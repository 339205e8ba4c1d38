pub mod Checked
pub mod Duals
pub mod Fault
pub mod Folding
