pub mod Reads
pub mod Readers
pub mod Readings
pub mod Gathers
pub mod Joins
pub mod Counts
