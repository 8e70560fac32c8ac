pub mod Stack
pub mod Lines
