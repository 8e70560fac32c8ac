pub mod Answers
pub mod Commands
pub mod Cuts
pub mod Outcomes
