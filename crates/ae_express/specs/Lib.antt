pub mod Forms
pub mod Lowered
pub mod Asked
pub mod ConstantValue
pub mod MaybeNets
