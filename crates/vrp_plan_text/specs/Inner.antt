pub mod Document
pub mod Listing
pub mod Ordered
pub mod Parted
pub mod Read
pub mod Routes
pub mod Served
