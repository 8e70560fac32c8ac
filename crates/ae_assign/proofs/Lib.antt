pub mod EdgeBlocks
pub mod EdgeFits
pub mod EdgeLaws
mod Acted
