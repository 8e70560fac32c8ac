pub mod Treeing
pub mod Counting
pub mod ReduceLaw
pub mod Building
