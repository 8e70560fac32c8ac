pub mod Evenness
pub mod Gaining
pub mod Operands
pub mod Sizes
pub mod Taking
