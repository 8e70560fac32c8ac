pub mod Listing
pub mod Headline
pub mod Laws
