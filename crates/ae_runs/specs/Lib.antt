pub mod Values
pub mod Runs
pub mod PlainRun
pub mod SameRuns
pub mod Guards
pub mod Named
pub mod Realizes
