pub mod Members
pub mod PlaceLemmas
mod SeenLaws
pub mod Again
pub mod Loops
pub mod Firsts
pub mod Read
mod Bounded
mod SymbolWeights
pub mod Weighing
pub mod Wide
pub mod TokenShape
pub mod Shapely
pub mod Scan
pub mod Unknowns
pub mod Doubled
pub mod Judged
