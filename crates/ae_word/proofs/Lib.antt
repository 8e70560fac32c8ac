pub mod Signed
pub mod Ranges
pub mod Sizes
