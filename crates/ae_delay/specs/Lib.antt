pub mod Bounds
pub mod Moving
pub mod Alike
pub mod OwnCosts
pub mod Costs
pub mod Weighing
pub mod Timings
pub mod Arriving
