pub mod SmallMoves
pub mod CostSteps
pub mod Certifying
