pub mod Sweeps
pub mod Scans
