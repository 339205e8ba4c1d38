pub mod LawfulAnswers
pub mod Lines
pub mod OneReport
pub mod ReadProblems
pub mod RefusalLemmas
pub mod Requests
pub mod Starts
