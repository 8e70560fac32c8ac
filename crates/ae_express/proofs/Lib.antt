pub mod NetLaws
pub mod CompareLaws
mod Arms
mod Lowered
mod PartLaws
pub mod AskedLaws
