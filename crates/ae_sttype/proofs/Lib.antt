pub mod Bounds
pub mod Places
pub mod Finding
pub mod Lively
pub mod Limits
pub mod MoveTable
