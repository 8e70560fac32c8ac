pub mod Graph
pub mod Walks
pub mod Sound
pub mod Drives
pub mod Sparses
