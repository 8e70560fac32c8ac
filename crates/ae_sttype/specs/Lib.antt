pub mod Slowdowns
pub mod StTree
pub mod Slots
pub mod Size
pub mod TypeText
pub mod Holds
pub mod Moves
