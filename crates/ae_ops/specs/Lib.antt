pub mod Waves
pub mod Blocks
pub mod Signs
pub mod Words
pub mod Folds
pub mod Gates
