pub mod Cuts
pub mod Sizes
pub mod Stands
pub mod Values
