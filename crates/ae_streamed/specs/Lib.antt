pub mod Count
pub mod Beats
pub mod Between
pub mod Room
