pub mod Inputs
pub mod Ports
pub mod Listed
pub mod Asked
pub mod Fed
pub mod Between
