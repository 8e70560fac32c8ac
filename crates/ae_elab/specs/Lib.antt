pub mod Declaring
pub mod Wiring
pub mod Connecting
