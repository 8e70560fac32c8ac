pub mod HalfLemmas
pub mod OpSound
pub mod PartSound
pub mod Soundness
pub mod TypeSound
