pub mod ModulePorts
pub mod Short
pub mod Streams
