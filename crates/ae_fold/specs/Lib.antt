pub mod Folding
pub mod Feedback
pub mod Rows
pub mod Shapes
