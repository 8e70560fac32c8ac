pub mod Building
pub mod Compiling
pub mod Costing
pub mod LineNotes
pub mod Mains
pub mod Passes
pub mod Playing
pub mod Programs
