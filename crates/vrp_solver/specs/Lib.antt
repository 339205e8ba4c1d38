pub use Rattle.vrp_answer.specs.Answer
pub use Rattle.vrp_answer.specs.Gatherer
pub use Rattle.vrp_solver.specs.SeatBoard
pub mod Inner
pub mod SeatBoard
