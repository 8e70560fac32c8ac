pub mod Fitting
pub mod Layouts
pub mod PlayedRuns
pub mod Keeping
pub mod WordLines
pub mod Summing
pub mod PortWords
pub mod Texts
