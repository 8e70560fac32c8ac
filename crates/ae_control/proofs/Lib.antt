pub mod Cells
pub mod Tables
pub mod Wiring
pub mod Queued
pub mod Standing
pub mod Queueing
