pub mod Cells
pub mod Shifts
