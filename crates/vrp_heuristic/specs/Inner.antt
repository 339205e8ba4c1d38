pub mod Stops
pub mod Tables
pub mod Turns
pub mod Joints
pub mod JoinedStops
