pub mod Adding
pub mod Added
pub mod Fits
pub mod Words
mod ShiftLaws
