pub mod Branching
pub mod Choice
pub mod Prices
pub mod Covering
pub mod Narrowing
pub mod Outcome
pub mod Pricing
