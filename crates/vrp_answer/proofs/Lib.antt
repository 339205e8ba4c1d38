pub mod BestPlan
mod DrawnPieces
mod NotedOutcomes
pub mod Outcomes
mod SettledPieces
mod Verdicts
