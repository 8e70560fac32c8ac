pub mod SeqTree
pub mod TypeText
pub mod ValueTree
