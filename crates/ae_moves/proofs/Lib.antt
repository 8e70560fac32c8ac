pub mod Lists
pub mod Words
pub mod CodeLaws
pub mod Ages
pub mod Stretches
pub mod Trees
pub mod Enough
pub mod Held
