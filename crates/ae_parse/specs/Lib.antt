pub mod StateView
pub mod Refusal
