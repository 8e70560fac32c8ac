pub mod Trees
pub mod Reduces
