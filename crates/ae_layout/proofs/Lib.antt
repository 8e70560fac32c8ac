pub mod Left
pub mod PieceLemmas
pub mod Standing
pub mod RowWords
pub mod LaidOut
