pub mod Copies
pub mod Images
pub mod Marks
pub mod Needed
pub mod Tidied
pub mod Places
