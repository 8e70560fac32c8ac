pub mod Correct
pub mod Laws
