pub mod Plans
pub mod Columns
pub mod Early
pub mod Held
pub mod Laws
pub mod Counts
