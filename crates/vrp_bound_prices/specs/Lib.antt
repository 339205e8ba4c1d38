pub mod CapacityCut
pub mod Inner
pub mod Priced
pub mod Relaxation
pub mod Units
