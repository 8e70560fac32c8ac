pub mod Joining
pub mod Steps
pub mod NotedCells
pub mod NoteLines
pub mod PortNets
pub mod Listable
