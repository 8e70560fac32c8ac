pub mod Enabled
pub mod Ports
pub mod Built
pub mod Written
