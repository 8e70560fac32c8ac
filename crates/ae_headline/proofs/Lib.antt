pub mod Meant
pub mod Same
pub mod Built
pub mod Modules
pub mod Types
