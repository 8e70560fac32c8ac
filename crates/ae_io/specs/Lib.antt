pub mod Counts
pub mod Told
pub mod States
pub mod Transfer
