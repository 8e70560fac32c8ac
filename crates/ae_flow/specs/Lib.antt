pub mod Flow
pub mod Fitted
pub mod Laws
