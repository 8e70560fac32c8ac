pub mod Count
pub mod Cells
pub mod Controls
pub mod Columns
