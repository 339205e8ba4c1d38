pub mod Asking
pub mod Ending
pub mod Leaves
pub mod Ordering
pub mod Passing
pub mod Reaching
pub mod Whole
