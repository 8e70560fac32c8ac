pub mod Circuit
pub mod Counts
pub mod Packed
pub mod Room
pub mod Rows
pub mod Runs
