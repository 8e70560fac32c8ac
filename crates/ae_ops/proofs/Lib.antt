pub mod Lateness
pub mod SignWords
pub mod Computing
pub mod WordBlocks
pub mod Combining
pub mod Squares
pub mod Gating
