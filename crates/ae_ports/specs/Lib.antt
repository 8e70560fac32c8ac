pub mod Ports
pub mod CircuitFor
