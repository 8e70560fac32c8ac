pub mod Declared
pub mod Clocks
pub mod Needs
pub mod Same
pub mod Once
pub mod Made
pub mod Pairwise
pub mod Guarded
pub mod Fits
mod Examples
mod Laid
mod ReadRuns
mod RealizedRuns
