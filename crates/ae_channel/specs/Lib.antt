pub mod Listings
pub mod Asked
pub mod Full
pub mod Texts
