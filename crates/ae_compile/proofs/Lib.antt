pub mod Assembled
pub mod Counts
pub mod NoFaults
pub mod Headlines
pub mod Inputs
pub mod Large
pub mod Mains
pub mod Modules
mod ItemNames
mod Noting
mod Shown
mod Enabling
mod Alike
mod Short
pub mod Made
