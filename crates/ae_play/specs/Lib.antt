pub mod Fed
pub mod Fits
pub mod Keeps
pub mod Lines
pub mod Sums
pub mod Words
pub mod WordSums
