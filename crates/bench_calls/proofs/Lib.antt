pub mod Inputs
pub mod Lanes
pub mod Small
