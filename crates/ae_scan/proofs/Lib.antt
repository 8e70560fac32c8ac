pub mod Sweeping
pub mod Counting
pub mod ScanLaw
pub mod Building
