pub mod Options
pub mod Given
pub mod Arguments
