pub mod Accepted
pub mod Formed
pub mod Meaning
pub mod ProgramTree
pub mod Signatures
pub mod Trees
pub mod Typing
