pub mod Answered
mod SymbolNames
pub mod DriveLaws
pub mod SoundLaws
pub mod SoundOf
pub mod SparseLaws
pub mod Turns
mod FlatLaws
mod GraphLeft
mod GraphWalks
mod NameLists
mod PlaceLaws
