pub mod Explained
pub mod Renamed
