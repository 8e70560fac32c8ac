pub mod Begun
pub mod Edges
pub mod Making
pub mod Masks
pub mod Planning
pub mod Played
pub mod State
