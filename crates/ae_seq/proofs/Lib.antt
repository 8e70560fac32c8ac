mod Examples
pub mod Items
pub mod Judging
pub mod Shapes
pub mod Types
