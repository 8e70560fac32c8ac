pub mod Edges
pub mod Assigned
