pub mod Widths
pub mod AtomText
pub mod AtomTree
pub mod WordTable
