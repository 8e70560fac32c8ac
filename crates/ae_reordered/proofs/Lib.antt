pub mod Effects
pub mod Orders
